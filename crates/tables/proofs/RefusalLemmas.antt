-- Why a CREATE TABLE fails.
use Rattle.std.proofs.Common.{◌≡◌, ◌⊎◌, ℕ, ◌+◌, ◌*◌, ◌^◌, ◌<◌, ◌≤◌, List, [], ◌∷◌, length, inl, inr, true, false, Option, None, Some, Ok, Err, IsSome, codes, zero, suc, lit<, sym, ap, subst, ◌∙◌, arith}
use Rattle.std.specs.List.{AllByRecursion}
use Rattle.std.specs.Char.{is_ascii}
use Rattle.std.specs.List.{list_all}
use Rattle.std.specs.Str.{IsAscii, IsUtf8}
use Rattle.std.proofs.lemmas.Bool.{and_parts, ltb-true}
use Rattle.std.proofs.lemmas.Str.{IsUtf8-from_ascii}
use Rattle.sqlite_value.specs.declared.value.Value.TheVariants.{Text}
use Rattle.sqlite_trees.specs.declared.error.StoreError.{StoreError}
use Rattle.sqlite_trees.specs.declared.error.StoreError.TheVariants.{OutOfMemory, Io, Corrupt, Full, Broken, Unstorable}
use Rattle.sqlite_rules.specs.Lists.{Has}
use Rattle.sqlite_catalog.specs.Calls.{RefusesTable, CreatesTable}
use Rattle.sqlite_catalog.specs.Change.{next_tree, is_used, is_reserved, automatics}
use Rattle.sqlite_catalog.specs.Listing.{is_fit, is_formed}
use Rattle.sqlite_catalog.specs.declared.error.Refusal.{Refusal}
use Rattle.sqlite_catalog.specs.declared.error.Refusal.TheVariants as why
use Rattle.sqlite_schema.specs.Rules.{table_reals, index_reals}
use Rattle.sqlite_schema.specs.declared.command.Returning.{Returning}
use Rattle.sqlite_resolve.specs.declared.compiled.Compiled.{Compiled}
use Rattle.sqlite.specs.Command.TheVariants.{CreateTable}
use Rattle.sqlite.specs.Command.{Command}
use Rattle.sqlite.specs.Compile.{table_defined_by}
use Rattle.sqlite.specs.Change.{created}
use Rattle.sqlite.specs.Table.{Table}
use Rattle.sqlite.specs.Schema.{Schema}
use Rattle.sqlite.specs.Effect.{Database}
use Rattle.sqlite.specs.Does.{Does, MakesTable, MakesSequence, lacks_sequence}
use Rattle.sqlite.specs.Calls.{IsWrite}
use Rattle.sqlite.specs.Rows.{Then}
use Rattle.sqlite.specs.declared.error.Error.{Error}
use Rattle.sqlite.specs.declared.run.Mode.{Mode}
use Rattle.sqlite.specs.Given.{IsPlain}
use Rattle.sqlite.specs.Listing.{understood}
use Rattle.sqlite.specs.State as sqlite
use Rattle.sqlite.specs.State.{State, HasCause, ExecutesIn, ExecutesInside, EndsScope, Escapes, IsMisplaced, IsStatement, IsUnchanged, MayChange, RunsCommand, shows_rows, text_of, mode_of}
use Rattle.sqlite.proofs.Callers.{command_of, statement_of}
use Rattle.tables.specs.Causes.{IsCaused}
use Rattle.tables.proofs.CauseLemmas.{IsAlone, not_run, store_failed}
use Rattle.tables.proofs.CreateLemmas.{Makes}

-- the text is one statement, and nothing of the table that it makes is refused under the schema
pub record IsAccepted (schema : Schema) (sql : List ℕ) (table : Table) : Type 0 where
  pub alone : IsAlone sql (understood schema sql)
  pub text : list_all is_ascii sql ≡ true
  pub name : list_all is_ascii table.name ≡ true
  pub unreserved : is_reserved table.name ≡ false
  pub free : is_used schema table.name ≡ false
  pub keys_free : AllByRecursion (λ i. is_used schema i.name ≡ false) (automatics table 0 0 table.uniques)
  pub trees : next_tree schema + length table.uniques < 65536
  pub reals : table_reals table < 2 ^ 64
  pub key_reals : AllByRecursion (λ key. index_reals (table_reals table) key < 2 ^ 64) table.uniques
  pub formed : is_formed table ≡ true
  pub fit : is_fit (Text (codes "table")) (Text table.name) (Text table.name) (Text sql) ≡ true
  pub short : 2 * length table.name + length sql + 200 < 10 ^ 9

ascii : (bs : List ℕ) → list_all is_ascii bs ≡ true → IsAscii bs
ascii [] all i = lit< tt
ascii (b ∷ bs) all zero = ltb-true _ _ (and_parts _ _ all).0
ascii (b ∷ bs) all (suc i) = ascii bs (and_parts _ _ all).1 i

are_ascii : (bs : List ℕ) → list_all is_ascii bs ≡ true → IsUtf8 bs
are_ascii bs all = IsUtf8-from_ascii bs (ascii bs all)

at_has : {X : Type 0} (P : X → Type 0) (xs : List X) (x : X) → AllByRecursion P xs → Has xs x → P x
at_has P [] x all has = absurd has
at_has P (y ∷ ys) x all (inl is) = subst P (sym is) all.0
at_has P (y ∷ ys) x all (inr has) = at_has P ys x all.1 has

module _ (schema : Schema) (sql : List ℕ) (table : Table) (m : Makes schema sql table) (a : IsAccepted schema sql table) where
  same_table : (t : Table) → table_defined_by sql ≡ Ok t → t ≡ table
  same_table t is = let both : Ok t ≡ Ok table = sym is ∙ m.defined in cc

  not_refused : (reason : Refusal) → RefusesTable schema sql reason → ⊥
  not_refused (why.Invalid e) h = absurd (let both : Ok table ≡ Err e = sym m.defined ∙ h in cc)
  not_refused why.NameTaken (t, is, inl used) = absurd (let e : true ≡ false = sym used ∙ ap (λ (u : Table). is_used schema u.name) (same_table t is) ∙ a.free in cc)
  not_refused why.NameTaken (t, is, inr taken) =
      let all : AllByRecursion (λ i. is_used schema i.name ≡ false) (automatics t 0 0 t.uniques) = subst (λ u. AllByRecursion (λ i. is_used schema i.name ≡ false) (automatics u 0 0 u.uniques)) (sym (same_table t is)) a.keys_free in
      absurd (let e : true ≡ false = sym taken.2 ∙ at_has _ _ taken.0 all taken.1 in cc)
  not_refused why.BadName (t, is, inl bad) = bad (are_ascii t.name (ap (λ (u : Table). list_all is_ascii u.name) (same_table t is) ∙ a.name))
  not_refused why.BadName (t, is, inr bad) = absurd (let e : true ≡ false = sym bad.0 ∙ ap (λ (u : Table). is_reserved u.name) (same_table t is) ∙ a.unreserved in cc)
  not_refused why.TooBig (t, is, inl big) = absurd (let h : 65536 ≤ next_tree schema + length table.uniques = subst (λ (u : Table). 65536 ≤ next_tree schema + length u.uniques) (same_table t is) big in omega (arith, h, a.trees))
  not_refused why.TooBig (t, is, inr (inl big)) = absurd (let h : 2 ^ 64 ≤ table_reals table = subst (λ u. 2 ^ 64 ≤ table_reals u) (same_table t is) big in omega (arith, h, a.reals))
  not_refused why.TooBig (t, is, inr (inr big)) =
      let all = subst (λ (u : Table). AllByRecursion (λ key. index_reals (table_reals u) key < 2 ^ 64) u.uniques) (sym (same_table t is)) a.key_reals in
      absurd (omega (arith, big.2, at_has (λ key. index_reals (table_reals t) key < 2 ^ 64) t.uniques big.0 all big.1))
  not_refused why.BadKey (t, is, bad) = absurd (let e : false ≡ true = sym bad ∙ ap is_formed (same_table t is) ∙ a.formed in cc)
  not_refused why.BadText (t, is, bad) =
      absurd (let e : false ≡ true = sym bad ∙ ap (λ (u : Table). is_fit (Text (codes "table")) (Text u.name) (Text u.name) (Text sql)) (same_table t is) ∙ a.fit in cc)
  not_refused (why.Violates rule) h = absurd h

  module _ (db : Database) (is_schema : db.schema ≡ schema) where
    makes : (stop : Option Error) → MakesTable sql db (Err stop) → ⊥
    makes None (t, is, long) = absurd (let h : 10 ^ 9 ≤ 2 * length table.name + length sql + 200 = subst (λ (u : Table). 10 ^ 9 ≤ 2 * length u.name + length sql + 200) (same_table t is) long in omega (arith, h, a.short))
    makes (Some e) (inl bad) = bad.0 (are_ascii sql a.text)
    makes (Some e) (inr refused) = not_refused refused.0 (subst (λ s. RefusesTable s sql refused.0) is_schema refused.1)

    counts : (after : Database) (stop : Option Error) → CreatesTable db.schema sql db.trees after.schema after.trees → MakesSequence after (Err stop) → ⊥
    counts after stop made h =
        let is : after.schema ≡ created schema table = made.is ∙ ap (λ s. created s made.table) is_schema ∙ ap (created schema) (same_table made.table made.defined) in
        let plain : lacks_sequence after.schema ≡ false = ap lacks_sequence is ∙ m.uncounted in
        absurd (let e = rw plain at h in cc)

    both : (stop : Option Error) → Then (MakesTable sql db) MakesSequence (Err stop) → ⊥
    both stop (inl h) = makes h.0 h.1
    both stop (inr h) = counts h.0 stop h.1 h.2

    does : (limit : Option ℕ) (mode : Mode) (stop : Option Error) → Does limit mode [] db sql None CreateTable (Err stop) → ⊥
    does limit mode stop (inl h) = both h.0 h.1
    does limit mode stop (inr h) = absurd (let e = h.2 in cc)

  module _ (old new : State) (is_schema : old.now.schema ≡ schema) (e : Error) where
    misplaced : IsMisplaced old CreateTable e → ⊥
    misplaced (inl (is, inl begin)) = absurd (let h = begin.0 in cc)
    misplaced (inl (is, inr (inl commit, idle))) = absurd (let h = commit in cc)
    misplaced (inl (is, inr (inr back, idle))) = absurd (let h = back in cc)
    misplaced (inr (is, name, inl release, none)) = absurd (let h = release in cc)
    misplaced (inr (is, name, inr back, none)) = absurd (let h = back in cc)

    store_cause : (cause : StoreError) → HasCause old new (Does old.step_limit (mode_of old) [] old.now sql None CreateTable (Err None)) cause → HasCause old new ⊥ cause
    store_cause OutOfMemory h = h
    store_cause Io h = h
    store_cause Corrupt h = h
    store_cause Full h = h
    store_cause Broken h = h
    store_cause Unstorable h = does old.now is_schema old.step_limit (mode_of old) None h

    -- what runs, or does not, with this text
    abbrev Runs : List ℕ → Type 0
    Runs text =
        ((IsMisplaced old CreateTable e ⊎ ((IsWrite CreateTable ⊎ IsSome {T = Returning} None) × Does old.step_limit (mode_of old) [] old.now text None CreateTable (Err (Some e)))) × IsUnchanged old new)
        ⊎ sqlite.Fails old new (Does old.step_limit (mode_of old) [] old.now text None CreateTable (Err None)) e

    runs : Runs sql → IsCaused old new e
    runs (inl (inl bad, same)) = absurd (misplaced bad)
    runs (inl (inr refused, same)) = absurd (does old.now is_schema old.step_limit (mode_of old) (Some e) refused.1)
    runs (inr failed) = store_failed old new e (failed.0, failed.1, store_cause failed.0 failed.2, failed.3, failed.4)

    known : (c : Compiled) → understood old.now.schema sql ≡ Ok c → Ok c ≡ understood schema sql
    known c is = sym is ∙ ap (λ s. understood s sql) is_schema

    creates : (c : Compiled) → understood old.now.schema sql ≡ Ok c → c.command ≡ CreateTable
    creates c is = ap command_of (known c is) ∙ m.is

    executes : ExecutesIn false sql [] old new (Err e) → IsCaused old new e
    unfolding ExecutesIn
    executes (inl h) = not_run old new sql e (subst (λ s. IsAlone sql (understood s sql)) (sym is_schema) a.alone) (subst (λ s. IsPlain (understood s sql)) (sym is_schema) m.plain) h
    executes (inr h) =
        let same = known h.0 h.1.is in
        let bare = subst IsPlain (sym same) m.plain in
        let is : h.0.command ≡ CreateTable = creates h.0 h.1.is in
        let text : text_of sql h.0 ≡ sql = ap (statement_of sql) same ∙ m.text in
        let ran : Runs (text_of sql h.0) = rw (is, bare.0) at h.2 in
        runs (subst Runs text ran)

    stays : (k : Command) → k ≡ CreateTable → Escapes 0 old k → ⊥
    stays k is (inl (inl commit)) = absurd (let h : CreateTable ≡ _ = sym is ∙ commit in cc)
    stays k is (inl (inr back)) = absurd (let h : CreateTable ≡ _ = sym is ∙ back in cc)
    stays k is (inr (name, inl release, held)) = absurd (let h : CreateTable ≡ _ = sym is ∙ release in cc)
    stays k is (inr (name, inr back, held)) = absurd (let h : CreateTable ≡ _ = sym is ∙ back in cc)

    -- The table is made, or its making has failed for a cause.
    pub fails_inside : ExecutesInside 0 sql [] old new (Err e) → IsCaused old new e
    unfolding EndsScope
    fails_inside (inl h) = executes h.0
    fails_inside (inr ends) = absurd (stays ends.0.0.command (creates ends.0.0 ends.0.1.is) ends.0.2)
