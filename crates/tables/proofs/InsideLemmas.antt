-- What a query leaves of a transaction, whatever the database holds.
use Rattle.std.proofs.Common.{◌≡◌, ◌⊎◌, ℕ, if◌then◌else◌, List, Option, None, Some, Ok, Err, Result, OnOk, true, refl, ap, ◌∙◌}
use Rattle.sqlite.specs.Order.{Row}
use Rattle.sqlite.specs.declared.error.Error.{Error}
use Rattle.sqlite_schema.specs.declared.command.Returning.{Returning}
use Rattle.sqlite_resolve.specs.declared.compiled.Compiled.{Compiled}
use Rattle.sqlite.specs.State.{State, KeepsCommit, Shown, ShowsRows, FailsToQuery, IsTooLate}
use Rattle.tables.specs.Inside.{GoesOn}
use Rattle.tables.proofs.ReadLemmas.{fails_inside}
use Rattle.tables.proofs.TransactionLemmas.{keeps_if_failed}

pub on_ok : {X E P : Type 0} (r : Result X E) → P → OnOk r P
on_ok (Ok x) h = h
on_ok (Err e) h = tt

module _ (old new : State) where
  pub keeps_if_goes_on : GoesOn old new → KeepsCommit old new
  keeps_if_goes_on h = record { was_open = λ _. h.was_open; committed = λ _. h.committed_is }

  rows_shown : (sql : List ℕ) (c : Compiled) (params : Row) (rows : List Row) (o : Option Returning) → old.in_transaction ≡ true → ShowsRows old new sql c params rows o → GoesOn old new
  rows_shown sql c params rows None inside h =
      let same = h.3.0 in
      record { was_open = same.was_open; is_open = same.is_open; now_is = refl; committed_is = same.committed_is; mode = same.mode ∙ inside }
  rows_shown sql c params rows (Some what) inside h =
      let shown = h.1.shown in
      record {
        was_open = shown.was_open;
        is_open = shown.is_open;
        now_is = refl;
        committed_is = shown.committed_is ∙ ap (λ b. if b then old.committed else new.now) inside;
        mode = shown.mode ∙ inside;
      }

  pub goes_on : (sql : List ℕ) (params : Row) (rows : List Row) → old.in_transaction ≡ true → Shown sql params old new rows → GoesOn old new
  unfolding Shown
  goes_on sql params rows inside h = rows_shown sql h.0 _ rows h.0.returning inside h.2

  pub keeps_if_query_fails : (sql : List ℕ) (params : Row) (e : Error) → FailsToQuery sql params old new e ⊎ IsTooLate sql params old new e → KeepsCommit old new
  keeps_if_query_fails sql params e h = keeps_if_failed old new (fails_inside old new sql params e h)
