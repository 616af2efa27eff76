use Rattle.std.proofs.Common.{arith}
use Rattle.sqlite.specs.State.{HasCleanDisk}
use Rattle.sqlite.specs.Held.{state}
use Rattle.tables_meaning.proofs.Inside.{changes_then}
use Rattle.tables_bodies.proofs.arriving.store_file.Goals as goal

pub returns-clause-ok : goal.returns-clause-ok
returns-clause-ok g c clean inside =
    let old = state g.S.Store c.args.tx.now.conn.now in
    let mid = state g.S.Store c.store_arrival.new.tx.conn.now in
    let new = state g.S.Store c.mark_here.new.tx.conn.now in
    let early : HasCleanDisk mid = omega (arith, c.mark_here.ensures.survives.clean, clean) in
    let arrived = c.in_ok-new.ensures.ok early inside in
    (changes_then old mid new _ _ arrived.0 (c.in_ok-mark_here.ensures.ok clean arrived.0.shown.mode), arrived.1)
