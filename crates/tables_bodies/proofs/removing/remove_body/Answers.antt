use Rattle.std.proofs.Common.{arith}
use Rattle.sqlite.specs.State.{HasCleanDisk}
use Rattle.sqlite.specs.Held.{state}
use Rattle.tables.proofs.TransactionLemmas.{on_ok}
use Rattle.tables_meaning.proofs.AmendLemmas.{changes_if_made, makes_if_changed, makes_then}
use Rattle.tables_bodies.proofs.ThinnedLemmas.{thins_then}
use Rattle.tables_bodies.proofs.removing.remove_body.Goals as goal

pub returns-clause-ok : goal.returns-clause-ok
returns-clause-ok g c clean inside =
    let a = state g.S.Store c.args.tx.now.conn.now in
    let m = state g.S.Store c.remove_later_pieces.new.tx.conn.now in
    let b = state g.S.Store c.delete_pieces_of.new.tx.conn.now in
    let d = state g.S.Store c.delete_body.new.tx.conn.now in
    let early : HasCleanDisk b = omega (arith, c.delete_body.ensures.survives.clean, clean) in
    let earlier : HasCleanDisk m = omega (arith, c.delete_pieces_of.ensures.survives.clean, early) in
    let later = c.in_ok-remove_later_pieces.ensures.ok earlier inside in
    let first = c.in_ok-delete_pieces_of.ensures.ok early later.makes.mode in
    let up = later.makes.kept.was_open first.shown.was_open in
    on_ok _ (c.delete_body.ensures.ok clean first.shown.mode)
    (λ second. changes_if_made a d _ up (makes_then a b d _ _ (thins_then c.args.id a m b later first) (makes_if_changed b d _ second)))
