use Rattle.std.proofs.Common.{subst}
use Rattle.sqlite.specs.Held.{state}
use Rattle.sqlite.proofs.StateLemmas.{survives_weaker}
use Rattle.tables.proofs.TransactionLemmas.{on_ok}
use Rattle.tables.specs.Rows.{tables_in}
use Rattle.tables_meaning.specs.Coming.{Comes}
use Rattle.tables_meaning.proofs.AmendLemmas.{err_then}
use Rattle.tables_meaning.proofs.ReadsLemmas.{undone_if_failed}
use Rattle.tables_meaning.proofs.TakingLemmas.{nothing_came, same_archive}
use Rattle.keep_tables.proofs.coming.clear.Goals as goal

pub returns-in-Some-clause-done : goal.returns-in-Some-clause-done
returns-in-Some-clause-done g c clean config judged shown dates count bytes keeps comes =
    c.forget_body.ensures.done clean config judged shown dates count bytes keeps (subst (λ o. Comes (tables_in (state g.S.Store c.args.conn.now).committed) o count bytes) c.in-Some.is comes)

pub returns-in-Some-clause-crash : goal.returns-in-Some-clause-crash
returns-in-Some-clause-crash g c =
    let old = state g.S.Store c.args.conn.now in
    survives_weaker old (state g.S.Store c.forget_body.new.conn) _ _ (λ clean trees may. (
      may.0,
      may.1,
      may.2,
      λ config judged shown dates count bytes keeps comes. may.3 config judged shown dates count bytes keeps (subst (λ o. Comes (tables_in old.committed) o count bytes) c.in-Some.is comes),
    )) c.forget_body.ensures.crash

pub returns-in-None-clause-open : goal.returns-in-None-clause-open
returns-in-None-clause-open g c clean = on_ok c.probe.result (c.probe.ensures.ok clean) (λ same. (same.0.was_open, same.0.is_open))

pub returns-in-None-clause-done : goal.returns-in-None-clause-done
returns-in-None-clause-done g c clean config judged shown dates count bytes keeps comes =
    let old = state g.S.Store c.args.conn.now in
    let new = state g.S.Store c.probe.new.conn in
    on_ok c.probe.result (c.probe.ensures.ok clean) (λ same. (
      same_archive old.committed new.committed same.0.committed_is keeps,
      nothing_came old.committed new.committed same.0.committed_is count bytes (subst (λ o. Comes (tables_in old.committed) o count bytes) c.in-None.is comes),
    ))

pub returns-in-None-clause-undone : goal.returns-in-None-clause-undone
returns-in-None-clause-undone g c clean = err_then c.probe.result (c.probe.ensures.err clean) (undone_if_failed (state g.S.Store c.args.conn.now) (state g.S.Store c.probe.new.conn))

pub returns-in-None-clause-crash : goal.returns-in-None-clause-crash
returns-in-None-clause-crash g c = survives_weaker (state g.S.Store c.args.conn.now) (state g.S.Store c.probe.new.conn) _ _ (λ clean trees none. absurd none) c.probe.ensures.survives
