use Rattle.std.proofs.Common.{ap, sym, ◌∙◌, arith, option_map}
use Rattle.sqlite.specs.State.{HasCleanDisk}
use Rattle.sqlite.specs.Held.{state}
use Rattle.tables.specs.declared.rows.Piece.{Piece}
use Rattle.tables_meaning.proofs.BodySteps.{unchanged_then}
use Rattle.tables_meaning.proofs.EndedLemmas.{goes_then}
use Rattle.tables_meaning.proofs.ReadsLemmas.{held_after}
use Rattle.tables_bodies.proofs.other.has_same_piece.Goals as goal

pub returns-clause-ok : goal.returns-clause-ok
returns-clause-ok g c clean t was =
    let old = state g.S.Store c.args.tx.now.conn.now in
    let mid = state g.S.Store c.piece_inside.new.tx.conn.now in
    let new = state g.S.Store c.piece_inside-2.new.tx.conn.now in
    let early : HasCleanDisk mid = omega (arith, c.piece_inside-2.ensures.survives.clean, clean) in
    let first = c.in_ok-one.ensures.ok early t was in
    let second = c.in_ok-there.ensures.ok clean t (held_after old mid first.1 t was) in
    let bytes = option_map (λ (p : Piece). p.bytes) in
    (λ same. sym (ap bytes first.0) ∙ c.are_same.ensures same ∙ ap bytes second.0, unchanged_then old mid new first.1 second.1)

pub returns-clause-goes_on : goal.returns-clause-goes_on
returns-clause-goes_on g c clean inside =
    let old = state g.S.Store c.args.tx.now.conn.now in
    let mid = state g.S.Store c.piece_inside.new.tx.conn.now in
    let new = state g.S.Store c.piece_inside-2.new.tx.conn.now in
    let early : HasCleanDisk mid = omega (arith, c.piece_inside-2.ensures.survives.clean, clean) in
    let on = c.in_ok-one.ensures.goes_on early inside in
    goes_then old mid new on (c.in_ok-there.ensures.goes_on clean on.mode)
