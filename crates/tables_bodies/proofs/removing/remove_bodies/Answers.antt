use Rattle.std.proofs.Common.{◌∙◌, arith}
use Rattle.std.proofs.lemmas.List.{get_or_default}
use Rattle.sqlite.specs.State.{HasCleanDisk}
use Rattle.sqlite.specs.Held.{state}
use Rattle.tables_meaning.proofs.AmendLemmas.{one_more, all_made, survives_both, makes_if_changed}
use Rattle.tables_meaning.specs.Finished.{without_whole}
use Rattle.tables_meaning.proofs.FinishedLemmas.{some_length}
use Rattle.tables_bodies.proofs.removing.remove_bodies.Goals as goal

pub loop-id-preserved : goal.loop-id-preserved
loop-id-preserved g c =
    let a = state g.S.Store c.args.tx.now.conn.now in
    let m = state g.S.Store c.loop-id.tx.conn.now in
    let b = state g.S.Store c.remove_body.new.tx.conn.now in
    record {
      reference = c.remove_body.ensures.same_reference ∙ c.loop-id.invariant.reference;
      survives = survives_both a m b c.loop-id.invariant.survives c.remove_body.ensures.survives;
      made = λ clean inside.
          let early : HasCleanDisk m = omega (arith, c.remove_body.ensures.survives.clean, clean) in
          let was = c.loop-id.invariant.made early inside in
          let done = makes_if_changed m b _ (c.in_ok-remove_body.ensures.ok clean was.mode) in
          one_more (λ now id. without_whole id now) c.args.ids.now c.loop-id.id-index _ a m b c.loop-id-test.true (get_or_default c.args.ids.now c.loop-id.id-index 0 _ c.loop-id-test.true) was done;
      opened = λ clean inside some.
          let early : HasCleanDisk m = omega (arith, c.remove_body.ensures.survives.clean, clean) in
          let was = c.loop-id.invariant.made early inside in
          was.kept.was_open (c.in_ok-remove_body.ensures.ok clean was.mode).shown.was_open;
    }

pub returns-clause-ok : goal.returns-clause-ok
returns-clause-ok g c clean inside =
    let a = state g.S.Store c.args.tx.now.conn.now in
    let m = state g.S.Store c.loop-id.tx.conn.now in
    all_made (λ now id. without_whole id now) c.args.ids.now c.loop-id.id-index a m c.loop-id-test.false (c.loop-id.invariant.made clean inside)

pub returns-clause-opened : goal.returns-clause-opened
returns-clause-opened g c clean inside some =
    let long = some_length c.args.ids.now some in
    c.loop-id.invariant.opened clean inside (omega (arith, long, c.loop-id-test.false))
