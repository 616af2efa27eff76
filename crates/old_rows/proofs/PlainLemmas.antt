-- A text that is a SELECT gives no rows of a write and reads no time, whatever the schema is.
use Rattle.std.proofs.Common.{◌≡◌, ℕ, List, [], Option, None, Ok, Err, sym, ap, subst, ◌∙◌, inl, inr}
use Rattle.std.proofs.lemmas.Bool.{cases_Bool}
use Rattle.sqlite_syntax.specs.declared.statement.Parsed.{Parsed}
use Rattle.sqlite_schema.specs.declared.command.Command.{Command}
use Rattle.sqlite_schema.specs.declared.command.Returning.{Returning}
use Rattle.sqlite_resolve.specs.declared.compiled.Compiled.{Compiled}
use Rattle.sqlite_resolve.specs.declared.error.CompileError.TheVariants.{NoSuchTable}
use Rattle.sqlite_resolve.specs.Compile.{with_command, compiled, planned, meaning, returning, timed, command, read}
use Rattle.sqlite_resolve.specs.Lowering.{Checked, and_then}
use Rattle.sqlite_trees.specs.Tree.{Trees}
use Rattle.sqlite.specs.Order.{Row}
use Rattle.sqlite.specs.Schema.{Schema}
use Rattle.sqlite.specs.Listing.{understood, reads_listing, if_select, is_select, listing_schema}
use Rattle.sqlite.specs.State.{State, Shown, IsUnchanged, CommitsShowing}
use Rattle.sqlite.proofs.Callers.{IsPlain, never_commits}
use Rattle.tables.proofs.ReadLemmas.{unchanged_if_plain}
use Rattle.old_rows.specs.Shown.{IsSelectText}

-- what is compiled of a parsed text, once the command is known
abbrev pub with_known : Parsed → Checked Command → Checked Compiled
with_known p r =
    and_then {B = Compiled} (and_then {B = List (List ℕ) × (Command × Option Returning)} (and_then {B = Command × Option Returning} r (λ c. Ok (c, None))) (λ found. Ok ([], found))) (λ plan. Ok (with_command p plan))

known_plain : (p : Parsed) (r : Checked Command) (c : Compiled) → with_known p r ≡ Ok c → (c.returning ≡ None) × (c.formats ≡ [])
known_plain p (Ok k) c e = let same : with_command p ([], (k, None)) ≡ c = cc in (ap (λ (d : Compiled). d.returning) (sym same), ap (λ (d : Compiled). d.formats) (sym same))
known_plain p (Err x) c e = absurd cc

module _ (sql : List ℕ) (text : IsSelectText sql) where
  is_known : (schema : Schema) → compiled schema sql ≡ with_known text.parsed (read schema text.query)
  unfolding compiled planned meaning returning timed command
  is_known schema = rw (text.is, text.selects, text.untimed)

  plain_compiled : (schema : Schema) (c : Compiled) → compiled schema sql ≡ Ok c → (c.returning ≡ None) × (c.formats ≡ [])
  plain_compiled schema c e = known_plain text.parsed (read schema text.query) c (sym (is_known schema) ∙ e)

  if_select_plain : (r : Checked Compiled) (c : Compiled) → ((d : Compiled) → r ≡ Ok d → (d.returning ≡ None) × (d.formats ≡ [])) → if_select r ≡ Ok c → (c.returning ≡ None) × (c.formats ≡ [])
  if_select_plain (Err x) c f e = absurd cc
  if_select_plain (Ok d) c f e = elim (cases_Bool (is_select d.command)) [
    | inl yes_ ↦ let same : Ok d ≡ Ok c = rw yes_ at e in f c (let it : d ≡ c = cc in ap Ok it)
    | inr no_ ↦ absurd (let bad : ◌≡◌ {A = Checked Compiled} (Err NoSuchTable) (Ok c) = rw no_ at e in cc)
  ]

  -- such a text is plain under each schema that understands it
  pub plain_text : (schema : Schema) (c : Compiled) → understood schema sql ≡ Ok c → (c.returning ≡ None) × (c.formats ≡ [])
  unfolding understood
  plain_text schema c e = elim (cases_Bool (reads_listing schema sql)) [
    | inl listed ↦ if_select_plain (compiled listing_schema sql) c (plain_compiled listing_schema) (rw listed at e)
    | inr plain ↦ plain_compiled schema c (rw plain at e)
  ]

  pub leaves_as_is : (params : Row) (old new : State) (rows : List Row) → Shown sql params old new rows → IsUnchanged old new
  unfolding Shown
  leaves_as_is params old new rows h = unchanged_if_plain old new sql params rows (subst IsPlain (sym h.1.is) (plain_text old.now.schema h.0 h.1.is)) h

  pub never : (params : Row) (s : State) (db : Trees) → ¬ CommitsShowing sql params s db
  unfolding CommitsShowing
  never params s db h = never_commits sql params s db (subst IsPlain (sym h.1.is) (plain_text s.now.schema h.0 h.1.is)) h
