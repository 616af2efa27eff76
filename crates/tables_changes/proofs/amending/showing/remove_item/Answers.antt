use Rattle.std.proofs.Common.{arith}
use Rattle.sqlite.specs.State.{HasCleanDisk}
use Rattle.sqlite.specs.Held.{state}
use Rattle.tables.proofs.TransactionLemmas.{on_ok}
use Rattle.tables_meaning.proofs.AmendLemmas.{makes_then, makes_if_changed}
use Rattle.tables_changes.proofs.amending.showing.remove_item.Goals as goal

pub returns-clause-ok : goal.returns-clause-ok
returns-clause-ok g c clean inside =
    let a = state g.S.Store c.args.tx.now.conn.now in
    let b = state g.S.Store c.delete_refs.new.tx.conn.now in
    let d = state g.S.Store c.delete_item.new.tx.conn.now in
    let early : HasCleanDisk b = omega (arith, c.delete_item.ensures.survives.clean, clean) in
    let first = c.in_ok-delete_refs.ensures.ok early inside in
    let next = (c.delete_item.ensures.ok clean first.shown.mode) in
    let begun = first in
    on_ok _ next (λ second. makes_then a b d _ _ (makes_if_changed a b _ begun) (makes_if_changed b d _ second))
