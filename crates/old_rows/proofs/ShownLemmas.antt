-- What a query said of a database, and what it left.
use Rattle.std.proofs.Common.{◌≡◌, ◌≤◌, ℕ, List, [], ◌∷◌, length, Option, None, Some, Result, Ok, Err, IfOk, IfSome, MatchOption, true, false, inl, inr, refl, sym, ap, subst, ◌∙◌, arith}
use Rattle.std.specs.List.{AllZip}
use Rattle.old_rows.specs.Failing.{is_fault}
use Rattle.old_rows.specs.Shown.{IsNotShown, IsRefused, IsSelectText, IsShown, IsUnderstood, Says, Shows}
use Rattle.old_rows.proofs.PlainLemmas.{leaves_as_is, never, plain_text}
use Rattle.sqlite_schema.specs.declared.command.Command.{Command}
use Rattle.sqlite_schema.specs.declared.command.Command.TheVariants.{Select, Rows}
use Rattle.sqlite_trees.specs.declared.error.StoreError.{StoreError}
use Rattle.sqlite_trees.specs.declared.error.StoreError.TheVariants.{OutOfMemory, Io, Corrupt, Full, Broken, Unstorable}
use Rattle.sqlite_resolve.specs.declared.compiled.Compiled.{Compiled}
use Rattle.sqlite.specs.declared.error.Error.{Error}
use Rattle.sqlite.specs.Effect.{Database, RefusesToRead}
use Rattle.sqlite.specs.Order.{Row}
use Rattle.sqlite.specs.State.{State, CommitsShowing, FailsToQuery, FailsToShow, HasCleanDisk, IsNoStatement, IsNotRun, IsUnchanged, Shown, ShowsRows, Survives, store_error}
use Rattle.sqlite.proofs.StateLemmas.{survives_weaker}
use Rattle.tables.proofs.ReadLemmas.{fails_to_query, fails_unchanged}
use Rattle.tables.specs.Rows.{Numbered}
use Rattle.tables_read.specs.Layout.{Layout, IsNotRead}
use Rattle.tables_read.specs.Reading.{Spells}

-- an error of the store is a fault
store_fault : (cause : StoreError) → is_fault (store_error cause) ≡ true
store_fault OutOfMemory = refl
store_fault Io = refl
store_fault Corrupt = refl
store_fault Full = refl
store_fault Broken = refl
store_fault Unstorable = refl

no_names : (names : List (List ℕ)) → 0 ≡ length names → names ≡ []
no_names [] h = refl
no_names (n ∷ ns) h = absurd (omega (arith, h))

both_ways : (e f : Error) → e ≡ f → is_fault f ≡ true → is_fault e ≡ false → ⊥
both_ways e f same yes_ no_ = let it : true ≡ false = sym yes_ ∙ ap is_fault (sym same) ∙ no_ in absurd cc

-- an error that is not a fault is not due to a limit on steps
unlimited : (limit : Option ℕ) (command : Command) (db : Database) (e : Error) → is_fault e ≡ false → RefusesToRead limit command db [] e → RefusesToRead None command db [] e
unlimited limit (Select q names) db e own (inl types) = inl types
unlimited limit (Select q names) db e own (inr (inl overflows)) = inr (inl overflows)
unlimited limit (Select q names) db e own (inr (inr steps)) = absurd (both_ways e _ steps.0 refl own)
unlimited limit (Rows values width names) db e own steps = absurd (both_ways e _ steps.0 refl own)
unlimited limit _ db e own h = h

module _ (sql : List ℕ) (text : IsSelectText sql) (old new : State) where
  pub shows : (rows : List Row) → Shown sql [] old new rows → Shows sql old.now rows
  unfolding Shown
  shows rows h =
      let bare = plain_text sql text old.now.schema h.0 h.1.is in
      let it : ShowsRows old new sql h.0 [] rows None = rw (bare.0, bare.1) at h.2 in
      record { compiled = h.0; is_understood = record { is = h.1.is; whole = h.1.whole; bare = no_names h.0.names h.1.given }; source = it.0; is_source = it.1; reads = it.2 }

  not_understood : (e : Error) → IsNoStatement old sql [] e → (c : Compiled) → ¬ IsUnderstood sql old.now c
  not_understood e (inl h) c it = let bad : ◌≡◌ {A = Result Compiled _} (Err h.0) (Ok c) = sym h.1 ∙ it.is in absurd cc
  not_understood e (inr h) c it =
      let both : ◌≡◌ {A = Result Compiled _} (Ok h.0) (Ok c) = sym h.1 ∙ it.is in
      let same : h.0 ≡ c = cc in
      elim h.2 [
        | inl more ↦ more.0 (subst (λ (d : Compiled). length sql ≤ d.tail) (sym same) it.whole)
        | inr (inl given) ↦ given.0 (sym (ap length (subst (λ (d : Compiled). d.names ≡ []) (sym same) it.bare)))
        | inr (inr clock) ↦ clock.0 (plain_text sql text old.now.schema h.0 h.1).1
      ]

  not_run : (e : Error) → is_fault e ≡ false → IsNotRun old new sql [] e → IsRefused sql old.now × IsUnchanged old new
  unfolding IsNotRun
  not_run e own (inl h) = (inl (not_understood e h.0), h.1)
  not_run e own (inr h) = absurd (both_ways e _ h.1 (store_fault h.0) own)

  -- an error that is not a fault refuses the query, and changes nothing
  refused : (e : Error) → is_fault e ≡ false → FailsToQuery sql [] old new e → IsRefused sql old.now × IsUnchanged old new
  unfolding FailsToQuery
  refused e own (inl h) = not_run e own h
  refused e own (inr h) =
      let bare = plain_text sql text old.now.schema h.0 h.1.is in
      let it : FailsToShow old new sql h.0 [] e None = rw (bare.0, bare.1) at h.2 in (
        inr (record {
          compiled = h.0;
          is_understood = record { is = h.1.is; whole = h.1.whole; bare = no_names h.0.names h.1.given };
          source = it.0;
          is_source = it.1;
          error = e;
          refuses = unlimited old.step_limit h.0.command it.0 e own it.2;
        }),
        it.3,
      )

  module _ (idle : old.in_transaction ≡ false → new.in_transaction ≡ false) (survives : Survives old new (CommitsShowing sql [] old)) where
    commits_none : Survives old new (λ _. ⊥)
    commits_none = survives_weaker old new _ _ (λ _ db commits. never sql text [] old db commits) survives

    -- the query fails with a fault
    pub faulted : {Y : Type 0} {Is : Y → Type 0} (e : Error) → (HasCleanDisk new → FailsToQuery sql [] old new e) → Says old new (Err e) Is
    faulted e h = record { idle = idle; is = λ _. tt; unchanged = λ _. tt; err = λ clean. fails_to_query old new sql [] e (h clean); survives = commits_none }

    module _ {X V : Type 0} (l : Layout X) (real : X → Type 0) (items : V → Numbered X) where
      -- what is said of the rows of a table
      abbrev IsSaid : Option V → Type 0
      IsSaid o = MatchOption o (IsNotShown l real sql old.now) (λ all. IsShown l.seen sql old.now (items all))

      -- the query is refused
      pub said_none : (e : Error) → is_fault e ≡ false → (HasCleanDisk new → FailsToQuery sql [] old new e) → Says old new (Ok None) IsSaid
      said_none e own h = record { idle = idle; is = λ clean. inl (refused e own (h clean)).0; unchanged = λ clean. (refused e own (h clean)).1; err = λ _. tt; survives = commits_none }

      -- the query shows rows, and this is what they are read as
      pub said : (rows : List Row) (r : Result (Option V) Error) → (HasCleanDisk new → Shown sql [] old new rows)
          → IfOk r (λ o. IfSome o (λ all. AllZip (Spells l.seen) rows (items all))) → IfOk r (λ o. o ≡ None → IsNotRead l real rows) → Says old new r IsSaid
      said rows (Ok (Some v)) shown some none = record {
        idle = idle;
        is = λ clean. record { rows = rows; shows = shows rows (shown clean); are = some };
        unchanged = λ clean. leaves_as_is sql text [] old new rows (shown clean);
        err = λ _. tt;
        survives = commits_none;
      }
      said rows (Ok None) shown some none = record {
        idle = idle;
        is = λ clean. inr (record { rows = rows; shows = shows rows (shown clean); is = none refl });
        unchanged = λ clean. leaves_as_is sql text [] old new rows (shown clean);
        err = λ _. tt;
        survives = commits_none;
      }
      said rows (Err e) shown some none = record {
        idle = idle;
        is = λ _. tt;
        unchanged = λ _. tt;
        err = λ clean. fails_unchanged old new (leaves_as_is sql text [] old new rows (shown clean));
        survives = commits_none;
      }
