use Rattle.std.proofs.Common.{◌≡◌, IsTrue, OnErr, OnOk, rules, arith, sym, subst, ◌∙◌}
use Rattle.sqlite.specs.Effect.{Database}
use Rattle.sqlite.specs.State.{HasCleanDisk, Survives}
use Rattle.sqlite.specs.Held.{state}
use Rattle.sqlite.proofs.StateLemmas.{survives_then}
use Rattle.sqlite.proofs.Callers.{survives_begin}
use Rattle.tables.specs.Rows.{Holds}
use Rattle.tables.specs.Schema.{no_schema}
use Rattle.tables.proofs.TransactionLemmas.{as_open, commit_failed, inside, on_err, on_ok, undone}
use Rattle.tables_meaning.specs.Founding.{IsFounded, MayFound, founded}
use Rattle.tables_meaning.specs.Transactions.{IsUndone}
use Rattle.tables_meaning.proofs.FoundLemmas.{founds_since, keeps_if_founded, undone_if_err, undone_since}
use Rattle.tables_changes.proofs.creating.create.Goals as goal

pub returns-in_err-found_inside-clause-undone : goal.returns-in_err-found_inside-clause-undone
returns-in_err-found_inside-clause-undone g c clean =
    let old = c.args.conn.now in
    let begun = c.transaction-tx.result.conn.now in
    let one = c.found_inside.new.tx.conn.now in
    let last = c.drop-tx.new.self.0 in
    let is = c.transaction-tx.ensures.begun in
    let same : last ≡ c.conn-1.given.0 = search rules in
    let late : HasCleanDisk (state g.S.Store last) = subst (λ h. HasCleanDisk (state g.S.Store h)) (sym same) clean in
    let kept = c.in_err-found_inside.ensures.err (omega (arith, c.drop-tx.ensures.survives.clean, late)) (inside g.S.Store old begun one one is) in
    on_err _ (subst (λ h. IsUndone (state g.S.Store old) (state g.S.Store h)) same
    (undone_since g.S.Store old begun is last (λ up. undone (state g.S.Store begun) (state g.S.Store one) (state g.S.Store last) kept (c.drop-tx.ensures.undone late) up)))

pub returns-clause-done : goal.returns-clause-done
returns-clause-done g c clean =
    let old = c.args.conn.now in
    let begun = c.transaction-tx.result.conn.now in
    let one = c.found_inside.new.tx.conn.now in
    let last = c.commit.new.self.0 in
    let is = c.transaction-tx.ensures.begun in
    let rows = founded c.args.config.now c.args.moment in
    let same : last ≡ c.conn-2-1.given.0 = search rules in
    let late : HasCleanDisk (state g.S.Store last) = subst (λ h. HasCleanDisk (state g.S.Store h)) (sym same) clean in
    let early : HasCleanDisk (state g.S.Store one) = omega (arith, c.commit.ensures.survives.clean, late) in
    let made = c.in_ok-found_inside.ensures.ok early (inside g.S.Store old begun one one is) in
    subst (λ h. OnOk c.commit.result (IsFounded (state g.S.Store old) (state g.S.Store h) rows)) same
    (on_ok c.commit.result (c.commit.ensures.ok late) (λ done. record {
      was_open = as_open g.S.Store old begun one one is made.shown.was_open;
      is_open = done.1.is_open;
      now_is = done.1.now_is ∙ sym done.1.committed_is;
      held = λ none. subst (λ (db : Database). Holds db rows) (sym done.1.committed_is) (founds_since g.S.Store old begun is (state g.S.Store one) rows made none);
    }))

pub returns-clause-undone : goal.returns-clause-undone
returns-clause-undone g c clean =
    let old = c.args.conn.now in
    let begun = c.transaction-tx.result.conn.now in
    let one = c.found_inside.new.tx.conn.now in
    let last = c.commit.new.self.0 in
    let is = c.transaction-tx.ensures.begun in
    let rows = founded c.args.config.now c.args.moment in
    let same : last ≡ c.conn-2-1.given.0 = search rules in
    let late : HasCleanDisk (state g.S.Store last) = subst (λ h. HasCleanDisk (state g.S.Store h)) (sym same) clean in
    let early : HasCleanDisk (state g.S.Store one) = omega (arith, c.commit.ensures.survives.clean, late) in
    let made = c.in_ok-found_inside.ensures.ok early (inside g.S.Store old begun one one is) in
    subst (λ h. OnErr c.commit.result (IsUndone (state g.S.Store old) (state g.S.Store h))) same
    (undone_if_err g.S.Store old begun is last c.commit.result
    (commit_failed (state g.S.Store begun) (state g.S.Store one) (state g.S.Store last) c.commit.result (keeps_if_founded (state g.S.Store begun) (state g.S.Store one) rows made) made.shown.mode (c.commit.ensures.err late)))

pub returns-clause-crash : goal.returns-clause-crash
returns-clause-crash g c =
    let old = c.args.conn.now in
    let begun = c.transaction-tx.result.conn.now in
    let one = c.found_inside.new.tx.conn.now in
    let last = c.commit.new.self.0 in
    let is = c.transaction-tx.ensures.begun in
    let rows = founded c.args.config.now c.args.moment in
    let same : last ≡ c.conn-2-1.given.0 = search rules in
    let both = λ (late : HasCleanDisk (state g.S.Store last)).
    let early : HasCleanDisk (state g.S.Store one) = omega (arith, c.commit.ensures.survives.clean, late) in
    let made = c.in_ok-found_inside.ensures.ok early (inside g.S.Store old begun one one is) in
    let it : IsTrue (state g.S.Store old).is_open × ((state g.S.Store old).now.schema ≡ no_schema → Holds (state g.S.Store one).now rows) =
    (as_open g.S.Store old begun one one is made.shown.was_open, founds_since g.S.Store old begun is (state g.S.Store one) rows made) in it in
    let P = MayFound (state g.S.Store old) rows in
    let whole = survives_then (state g.S.Store old) (state g.S.Store one) (state g.S.Store last) (λ _. ⊥) _ P (λ _ db none. absurd none) (λ late db is. (_, is, (both late).0, (both late).1))
    (survives_begin g.S.Store old (state g.S.Store one) _ (rw is at c.found_inside.ensures.survives)) c.commit.ensures.survives in
    subst (λ h. Survives (state g.S.Store old) (state g.S.Store h) P) same whole
