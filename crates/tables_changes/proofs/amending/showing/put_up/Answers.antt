use Rattle.std.proofs.Common.{arith}
use Rattle.sqlite.specs.State.{HasCleanDisk}
use Rattle.sqlite.specs.Held.{state}
use Rattle.tables.proofs.TransactionLemmas.{on_ok}
use Rattle.tables_meaning.proofs.AmendLemmas.{makes_as, makes_if_changed, makes_then, put_as}
use Rattle.tables_changes.proofs.amending.showing.put_up.Goals as goal

pub returns-clause-ok : goal.returns-clause-ok
returns-clause-ok g c clean inside =
    let a = state g.S.Store c.args.tx.now.conn.now in
    let b = state g.S.Store c.insert_item.new.tx.conn.now in
    let d = state g.S.Store c.put_files.new.tx.conn.now in
    let early : HasCleanDisk b = omega (arith, c.put_files.ensures.survives.clean, clean) in
    let first = rw c.in_ok-row.ensures at (c.in_ok-id.ensures.ok early inside) in
    on_ok _ (c.put_files.ensures.ok clean first.0.shown.mode) (λ second. makes_as a d _ _ (λ t was. put_as c.args.suites.now c.args.entry.now t c.in_ok-id.id (first.1 t was)) (makes_then a b d _ _ (makes_if_changed a b _ first.0) second))
