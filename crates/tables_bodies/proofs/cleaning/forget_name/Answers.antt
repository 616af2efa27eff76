use Rattle.std.proofs.Common.{arith}
use Rattle.sqlite.specs.State.{HasCleanDisk}
use Rattle.sqlite.specs.Held.{state}
use Rattle.tables.proofs.TransactionLemmas.{on_ok}
use Rattle.tables_meaning.proofs.AmendLemmas.{makes_if_changed, makes_then}
use Rattle.tables_bodies.proofs.cleaning.forget_name.Goals as goal

pub returns-clause-ok : goal.returns-clause-ok
returns-clause-ok g c clean inside =
    let a = state g.S.Store c.args.tx.now.conn.now in
    let b = state g.S.Store c.mark_away.new.tx.conn.now in
    let d = state g.S.Store c.remove_request.new.tx.conn.now in
    let early : HasCleanDisk b = omega (arith, c.remove_request.ensures.survives.clean, clean) in
    let first = c.in_ok-mark_away.ensures.ok early inside in
    on_ok _ (c.remove_request.ensures.ok clean first.shown.mode) (λ second. makes_then a b d _ _ (makes_if_changed a b _ first) second)
