use Rattle.std.proofs.Common.{◌∙◌, arith}
use Rattle.sqlite.specs.State.{HasCleanDisk}
use Rattle.sqlite.specs.Held.{state}
use Rattle.tables_meaning.specs.Cleaning.{with_gone}
use Rattle.tables_meaning.proofs.AmendLemmas.{one_more, all_made, survives_both}
use Rattle.tables_bodies.proofs.cleaning.take_all_away.Goals as goal

pub loop-arrival-preserved : goal.loop-arrival-preserved
loop-arrival-preserved g c =
    let a = state g.S.Store c.args.tx.now.conn.now in
    let m = state g.S.Store c.loop-arrival.tx.conn.now in
    let b = state g.S.Store c.take_away.new.tx.conn.now in
    record {
      reference = c.take_away.ensures.same_reference ∙ c.loop-arrival.invariant.reference;
      survives = survives_both a m b c.loop-arrival.invariant.survives c.take_away.ensures.survives;
      made = λ clean inside.
          let early : HasCleanDisk m = omega (arith, c.take_away.ensures.survives.clean, clean) in
          let was = c.loop-arrival.invariant.made early inside in
          one_more (λ now x. with_gone x now) c.args.arrivals.now c.loop-arrival.arrival-index c.arrival-item.result a m b c.loop-arrival-test.true c.arrival-item.is was (c.in_ok-take_away.ensures.ok clean was.mode);
    }

pub returns-clause-ok : goal.returns-clause-ok
returns-clause-ok g c clean inside =
    let a = state g.S.Store c.args.tx.now.conn.now in
    let m = state g.S.Store c.loop-arrival.tx.conn.now in
    all_made (λ now x. with_gone x now) c.args.arrivals.now c.loop-arrival.arrival-index a m c.loop-arrival-test.false (c.loop-arrival.invariant.made clean inside)
