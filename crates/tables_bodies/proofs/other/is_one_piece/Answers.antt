use Rattle.std.proofs.Common.{sym, ap, ◌∙◌, option_map, arith, true≢false}
use Rattle.sqlite.specs.State.{HasCleanDisk}
use Rattle.sqlite.specs.Held.{state}
use Rattle.tables.specs.declared.rows.Piece.{Piece}
use Rattle.tables_meaning.proofs.BodySteps.{unchanged_then}
use Rattle.tables_meaning.proofs.EndedLemmas.{goes_then}
use Rattle.tables_meaning.proofs.ReadsLemmas.{held_after}
use Rattle.tables_bodies.proofs.AtOnceLemmas.{none_behind}
use Rattle.tables_bodies.proofs.other.is_one_piece.Goals as goal

pub returns-then-is_some-clause-ok : goal.returns-then-is_some-clause-ok
returns-then-is_some-clause-ok g c clean t was =
    let old = state g.S.Store c.args.tx.now.conn.now in
    let mid = state g.S.Store c.piece_inside.new.tx.conn.now in
    let new = state g.S.Store c.piece_inside-2.new.tx.conn.now in
    let early : HasCleanDisk mid = omega (arith, c.piece_inside-2.ensures.survives.clean, clean) in
    let first = c.in_ok-first.ensures.ok early t was in
    (λ yes. absurd (true≢false (sym yes)), unchanged_then old mid new first.1 (c.in_ok-last.ensures.ok clean t (held_after old mid first.1 t was)).1)

pub returns-then-is_some-clause-goes_on : goal.returns-then-is_some-clause-goes_on
returns-then-is_some-clause-goes_on g c clean inside =
    let old = state g.S.Store c.args.tx.now.conn.now in
    let mid = state g.S.Store c.piece_inside.new.tx.conn.now in
    let new = state g.S.Store c.piece_inside-2.new.tx.conn.now in
    let early : HasCleanDisk mid = omega (arith, c.piece_inside-2.ensures.survives.clean, clean) in
    let on = c.in_ok-first.ensures.goes_on early inside in
    goes_then old mid new on (c.in_ok-last.ensures.goes_on clean on.mode)

pub returns-clause-ok : goal.returns-clause-ok
returns-clause-ok g c clean t was =
    let old = state g.S.Store c.args.tx.now.conn.now in
    let mid = state g.S.Store c.piece_inside.new.tx.conn.now in
    let new = state g.S.Store c.piece_inside-2.new.tx.conn.now in
    let early : HasCleanDisk mid = omega (arith, c.piece_inside-2.ensures.survives.clean, clean) in
    let first = c.in_ok-first.ensures.ok early t was in
    let last = c.in_ok-last.ensures.ok clean t (held_after old mid first.1 t was) in (
      λ same. record {
        first = sym (ap (option_map (λ (p : Piece). p.bytes)) first.0) ∙ c.is_piece_of.ensures same;
        last = none_behind t c.args.body c.in_ok-last.last last.0 (sym c.is_some.ensures ∙ c.if-is_some.false);
      },
      unchanged_then old mid new first.1 last.1,
    )

pub returns-clause-goes_on : goal.returns-clause-goes_on
returns-clause-goes_on g c clean inside =
    let old = state g.S.Store c.args.tx.now.conn.now in
    let mid = state g.S.Store c.piece_inside.new.tx.conn.now in
    let new = state g.S.Store c.piece_inside-2.new.tx.conn.now in
    let early : HasCleanDisk mid = omega (arith, c.piece_inside-2.ensures.survives.clean, clean) in
    let on = c.in_ok-first.ensures.goes_on early inside in
    goes_then old mid new on (c.in_ok-last.ensures.goes_on clean on.mode)
