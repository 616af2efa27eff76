use Rattle.std.proofs.Common.{arith}
use Rattle.sqlite.specs.State.{HasCleanDisk}
use Rattle.sqlite.specs.Held.{state}
use Rattle.tables.proofs.TransactionLemmas.{on_ok}
use Rattle.tables_meaning.proofs.AmendLemmas.{makes_then}
use Rattle.tables_changes.proofs.amending.showing.change_items.Goals as goal

pub returns-clause-ok : goal.returns-clause-ok
returns-clause-ok g c clean inside =
    let a = state g.S.Store c.args.tx.now.conn.now in
    let b = state g.S.Store c.take_down_all.new.tx.conn.now in
    let d = state g.S.Store c.put_up_all.new.tx.conn.now in
    let early : HasCleanDisk b = omega (arith, c.put_up_all.ensures.survives.clean, clean) in
    let first = c.in_ok-take_down_all.ensures.ok early inside in
    let next = rw c.as_slice-put.ensures at (c.put_up_all.ensures.ok clean first.mode) in
    let begun = rw c.as_slice-dropped.ensures at first in
    on_ok _ next (λ second. makes_then a b d _ _ begun second)
