use Rattle.std.proofs.Common.{◌∙◌, arith, refl}
use Rattle.sqlite.specs.State.{HasCleanDisk}
use Rattle.sqlite.specs.Held.{state}
use Rattle.tables.proofs.ReadLemmas.{survives_none}
use Rattle.tables_meaning.proofs.AmendLemmas.{survives_both}
use Rattle.tables_bodies.proofs.ThinnedLemmas.{thins_more, thins_none}
use Rattle.tables_bodies.proofs.removing.remove_later_pieces.Goals as goal

pub loop-number-init : goal.loop-number-init
loop-number-init g c =
    let a = state g.S.Store c.args.tx.now.conn.now in
    record {
      reference = refl;
      survives = survives_none a;
      thinned = λ clean inside. thins_none c.args.id a inside;
    }

pub loop-number-preserved : goal.loop-number-preserved
loop-number-preserved g c =
    let a = state g.S.Store c.args.tx.now.conn.now in
    let m = state g.S.Store c.loop-number.tx.conn.now in
    let b = state g.S.Store c.delete_piece.new.tx.conn.now in
    record {
      reference = c.delete_piece.ensures.same_reference ∙ c.loop-number.invariant.reference;
      survives = survives_both a m b c.loop-number.invariant.survives c.delete_piece.ensures.survives;
      thinned = λ clean inside.
          let early : HasCleanDisk m = omega (arith, c.delete_piece.ensures.survives.clean, clean) in
          let was = c.loop-number.invariant.thinned early inside in
          thins_more c.args.id c.loop-number.number a m b was (c.in_ok-taken.ensures.ok clean was.makes.mode).0;
    }

pub returns-then-not-taken-clause-ok : goal.returns-then-not-taken-clause-ok
returns-then-not-taken-clause-ok g c clean inside =
    let a = state g.S.Store c.args.tx.now.conn.now in
    let m = state g.S.Store c.loop-number.tx.conn.now in
    let b = state g.S.Store c.delete_piece.new.tx.conn.now in
    let early : HasCleanDisk m = omega (arith, c.delete_piece.ensures.survives.clean, clean) in
    let was = c.loop-number.invariant.thinned early inside in
    thins_more c.args.id c.loop-number.number a m b was (c.in_ok-taken.ensures.ok clean was.makes.mode).0
