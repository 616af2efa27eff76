use Rattle.std.proofs.Common.{◌≡◌, OnErr, OnOk, sym, subst, arith, rules}
use Rattle.sqlite.specs.State.{HasCleanDisk, Survives}
use Rattle.sqlite.specs.Held.{state}
use Rattle.sqlite.proofs.StateLemmas.{survives_weaker}
use Rattle.tables.proofs.TransactionLemmas.{on_err, on_ok}
use Rattle.tables_meaning.specs.Transactions.{IsDone, IsUndone, MayCommit}
use Rattle.tables_meaning.proofs.AmendLemmas.{begun_inside, changes_if_made, commit_undone, crash_from, done_from, undone_by, undone_from, undone_from_if_err}
use Rattle.std.specs.Prelude.{⊤}
use Rattle.tables_meaning.specs.Finished.{without_all}
use Rattle.tables_bodies.proofs.removing.remove_all.Goals as goal

pub returns-in_err-remove_bodies-clause-undone : goal.returns-in_err-remove_bodies-clause-undone
returns-in_err-remove_bodies-clause-undone g c clean =
    let old = c.args.conn.now in
    let begun = c.transaction-tx.result.conn.now in
    let mid = c.remove_bodies.new.tx.conn.now in
    let last = c.drop-tx.new.self.0 in
    let is = c.transaction-tx.ensures.begun in
    let same : last ≡ c.conn-1.given.0 = search rules in
    let late : HasCleanDisk (state g.S.Store last) = subst (λ h. HasCleanDisk (state g.S.Store h)) (sym same) clean in
    let failed = c.in_err-remove_bodies.ensures.err (omega (arith, c.drop-tx.ensures.survives.clean, late)) (begun_inside g.S.Store old begun mid last is) in
    on_err _ (subst (λ h. IsUndone (state g.S.Store old) (state g.S.Store h)) same
    (undone_from g.S.Store old begun mid last is (undone_by (state g.S.Store begun) (state g.S.Store mid) (state g.S.Store last) failed (c.drop-tx.ensures.undone late))))

pub returns-clause-done : goal.returns-clause-done
returns-clause-done g c clean =
    let old = c.args.conn.now in
    let begun = c.transaction-tx.result.conn.now in
    let mid = c.remove_bodies.new.tx.conn.now in
    let last = c.commit.new.self.0 in
    let is = c.transaction-tx.ensures.begun in
    let same : last ≡ c.conn-2-1.given.0 = search rules in
    let late : HasCleanDisk (state g.S.Store last) = subst (λ h. HasCleanDisk (state g.S.Store h)) (sym same) clean in
    let early : HasCleanDisk (state g.S.Store mid) = omega (arith, c.commit.ensures.survives.clean, late) in
    let inside = begun_inside g.S.Store old begun mid last is in
    let made = changes_if_made _ _ _ (c.in_ok-remove_bodies.ensures.opened early inside c.requires.some) (c.in_ok-remove_bodies.ensures.ok early inside) in
    subst (λ h. OnOk c.commit.result (IsDone (state g.S.Store old) (state g.S.Store h) (without_all c.args.ids.now))) same
    (on_ok c.commit.result (c.commit.ensures.ok late) (λ done. done_from g.S.Store old begun mid last is (without_all c.args.ids.now) made done.1))

pub returns-clause-undone : goal.returns-clause-undone
returns-clause-undone g c clean =
    let old = c.args.conn.now in
    let begun = c.transaction-tx.result.conn.now in
    let mid = c.remove_bodies.new.tx.conn.now in
    let last = c.commit.new.self.0 in
    let is = c.transaction-tx.ensures.begun in
    let same : last ≡ c.conn-2-1.given.0 = search rules in
    let late : HasCleanDisk (state g.S.Store last) = subst (λ h. HasCleanDisk (state g.S.Store h)) (sym same) clean in
    let early : HasCleanDisk (state g.S.Store mid) = omega (arith, c.commit.ensures.survives.clean, late) in
    let made = c.in_ok-remove_bodies.ensures.ok early (begun_inside g.S.Store old begun mid last is) in
    subst (λ h. OnErr c.commit.result (IsUndone (state g.S.Store old) (state g.S.Store h))) same
    (undone_from_if_err g.S.Store old begun mid last is c.commit.result
    (commit_undone (state g.S.Store begun) (state g.S.Store mid) (state g.S.Store last) c.commit.result made.kept made.mode (c.commit.ensures.err late)))

pub returns-clause-crash : goal.returns-clause-crash
returns-clause-crash g c =
    let old = c.args.conn.now in
    let begun = c.transaction-tx.result.conn.now in
    let mid = c.remove_bodies.new.tx.conn.now in
    let last = c.commit.new.self.0 in
    let is = c.transaction-tx.ensures.begun in
    let same : last ≡ c.conn-2-1.given.0 = search rules in
    let inside = begun_inside g.S.Store old begun mid last is in
    subst (λ h. Survives (state g.S.Store old) (state g.S.Store h) (MayCommit (state g.S.Store old) (without_all c.args.ids.now))) same
    (survives_weaker _ _ _ _ (λ _ trees may. may.0)
    (crash_from g.S.Store old begun mid last is (without_all c.args.ids.now) (λ _. ⊤)
    (λ early. changes_if_made _ _ _ (c.in_ok-remove_bodies.ensures.opened early inside c.requires.some) (c.in_ok-remove_bodies.ensures.ok early inside))
    (λ early t held. tt) c.remove_bodies.ensures.survives c.commit.ensures.survives))
