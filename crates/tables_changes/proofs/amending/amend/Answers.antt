use Rattle.std.proofs.Common.{◌≡◌, OnErr, OnOk, sym, subst, arith, rules}
use Rattle.sqlite.specs.State.{HasCleanDisk, Survives}
use Rattle.sqlite.specs.Held.{state}
use Rattle.tables.specs.Rows.{Tables, Holds}
use Rattle.tables.proofs.TransactionLemmas.{keeps_if_changed, on_err, on_ok}
use Rattle.tables_meaning.specs.Amending.{HasAllBodies}
use Rattle.tables_meaning.specs.Transactions.{IsDone, IsUndone, MayCommit}
use Rattle.tables_meaning.proofs.AmendLemmas.{begun_inside, commit_undone, crash_from, done_from, held_from, undone_by, undone_from, undone_from_if_err}
use Rattle.tables_bodies.specs.Swept.{with_made}
use Rattle.tables_changes.proofs.amending.amend.Goals as goal

pub returns-in_err-amend_inside-clause-undone : goal.returns-in_err-amend_inside-clause-undone
returns-in_err-amend_inside-clause-undone g c clean =
    let old = c.args.conn.now in
    let begun = c.transaction-tx.result.conn.now in
    let mid = c.amend_inside.new.tx.conn.now in
    let last = c.drop-tx.new.self.0 in
    let is = c.transaction-tx.ensures.begun in
    let same : last ≡ c.conn-1.given.0 = search rules in
    let late : HasCleanDisk (state g.S.Store last) = subst (λ h. HasCleanDisk (state g.S.Store h)) (sym same) clean in
    let failed = c.in_err-amend_inside.ensures.err (omega (arith, c.drop-tx.ensures.survives.clean, late)) (begun_inside g.S.Store old begun mid last is) in
    on_err _ (subst (λ h. IsUndone (state g.S.Store old) (state g.S.Store h)) same
    (undone_from g.S.Store old begun mid last is (undone_by (state g.S.Store begun) (state g.S.Store mid) (state g.S.Store last) failed (c.drop-tx.ensures.undone late))))

pub returns-clause-done : goal.returns-clause-done
returns-clause-done g c clean =
    let old = c.args.conn.now in
    let begun = c.transaction-tx.result.conn.now in
    let mid = c.amend_inside.new.tx.conn.now in
    let last = c.commit.new.self.0 in
    let is = c.transaction-tx.ensures.begun in
    let same : last ≡ c.conn-2-1.given.0 = search rules in
    let late : HasCleanDisk (state g.S.Store last) = subst (λ h. HasCleanDisk (state g.S.Store h)) (sym same) clean in
    let early : HasCleanDisk (state g.S.Store mid) = omega (arith, c.commit.ensures.survives.clean, late) in
    let made = c.in_ok-amend_inside.ensures.ok early (begun_inside g.S.Store old begun mid last is) in
    subst (λ h. OnOk c.commit.result (IsDone (state g.S.Store old) (state g.S.Store h) (with_made c.args.sweeps c.args.config.now c.args.judged c.args.change.now))) same
    (on_ok c.commit.result (c.commit.ensures.ok late) (λ done. done_from g.S.Store old begun mid last is (with_made c.args.sweeps c.args.config.now c.args.judged c.args.change.now) made done.1))

pub returns-clause-bodies : goal.returns-clause-bodies
returns-clause-bodies g c clean =
    let old = c.args.conn.now in
    let begun = c.transaction-tx.result.conn.now in
    let mid = c.amend_inside.new.tx.conn.now in
    let last = c.commit.new.self.0 in
    let is = c.transaction-tx.ensures.begun in
    let same : last ≡ c.conn-2-1.given.0 = search rules in
    let late : HasCleanDisk (state g.S.Store last) = subst (λ h. HasCleanDisk (state g.S.Store h)) (sym same) clean in
    let early : HasCleanDisk (state g.S.Store mid) = omega (arith, c.commit.ensures.survives.clean, late) in
    let there = c.in_ok-amend_inside.ensures.bodies early (begun_inside g.S.Store old begun mid last is) in
    on_ok {Q = (t : Tables) → Holds (state g.S.Store old).now t → HasAllBodies t c.args.change.now.steps} c.commit.result (c.commit.ensures.ok late) (λ done. held_from g.S.Store old begun mid last is (λ t. HasAllBodies t c.args.change.now.steps) there)

pub returns-clause-undone : goal.returns-clause-undone
returns-clause-undone g c clean =
    let old = c.args.conn.now in
    let begun = c.transaction-tx.result.conn.now in
    let mid = c.amend_inside.new.tx.conn.now in
    let last = c.commit.new.self.0 in
    let is = c.transaction-tx.ensures.begun in
    let same : last ≡ c.conn-2-1.given.0 = search rules in
    let late : HasCleanDisk (state g.S.Store last) = subst (λ h. HasCleanDisk (state g.S.Store h)) (sym same) clean in
    let early : HasCleanDisk (state g.S.Store mid) = omega (arith, c.commit.ensures.survives.clean, late) in
    let made = c.in_ok-amend_inside.ensures.ok early (begun_inside g.S.Store old begun mid last is) in
    subst (λ h. OnErr c.commit.result (IsUndone (state g.S.Store old) (state g.S.Store h))) same
    (undone_from_if_err g.S.Store old begun mid last is c.commit.result
    (commit_undone (state g.S.Store begun) (state g.S.Store mid) (state g.S.Store last) c.commit.result (keeps_if_changed _ _ _ made) made.shown.mode (c.commit.ensures.err late)))

pub returns-clause-crash : goal.returns-clause-crash
returns-clause-crash g c =
    let old = c.args.conn.now in
    let begun = c.transaction-tx.result.conn.now in
    let mid = c.amend_inside.new.tx.conn.now in
    let last = c.commit.new.self.0 in
    let is = c.transaction-tx.ensures.begun in
    let same : last ≡ c.conn-2-1.given.0 = search rules in
    subst (λ h. Survives (state g.S.Store old) (state g.S.Store h) (λ trees. MayCommit (state g.S.Store old) (with_made c.args.sweeps c.args.config.now c.args.judged c.args.change.now) trees
    × ((t : Tables) → Holds (state g.S.Store old).now t → HasAllBodies t c.args.change.now.steps))) same
    (crash_from g.S.Store old begun mid last is (with_made c.args.sweeps c.args.config.now c.args.judged c.args.change.now) (λ t. HasAllBodies t c.args.change.now.steps)
    (λ early. c.in_ok-amend_inside.ensures.ok early (begun_inside g.S.Store old begun mid last is))
    (λ early. c.in_ok-amend_inside.ensures.bodies early (begun_inside g.S.Store old begun mid last is)) c.amend_inside.ensures.survives c.commit.ensures.survives)
