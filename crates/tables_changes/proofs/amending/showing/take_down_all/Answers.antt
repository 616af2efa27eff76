use Rattle.std.proofs.Common.{◌∙◌, arith}
use Rattle.sqlite.specs.State.{HasCleanDisk}
use Rattle.sqlite.specs.Held.{state}
use Rattle.tables_meaning.specs.Making.{without_shown}
use Rattle.tables_meaning.proofs.AmendLemmas.{one_more, all_made, survives_both}
use Rattle.tables_changes.proofs.amending.showing.take_down_all.Goals as goal

pub loop-entry-preserved : goal.loop-entry-preserved
loop-entry-preserved g c =
    let a = state g.S.Store c.args.tx.now.conn.now in
    let m = state g.S.Store c.loop-entry.tx.conn.now in
    let b = state g.S.Store c.take_down.new.tx.conn.now in
    record {
      reference = c.take_down.ensures.same_reference ∙ c.loop-entry.invariant.reference;
      survives = survives_both a m b c.loop-entry.invariant.survives c.take_down.ensures.survives;
      made = λ clean inside.
          let early : HasCleanDisk m = omega (arith, c.take_down.ensures.survives.clean, clean) in
          let was = c.loop-entry.invariant.made early inside in
          one_more (λ now e. without_shown c.args.suites.now e now) c.args.entries.now c.loop-entry.entry-index c.entry-item.result a m b c.loop-entry-test.true c.entry-item.is was (c.in_ok-take_down.ensures.ok clean was.mode);
    }

pub returns-clause-ok : goal.returns-clause-ok
returns-clause-ok g c clean inside =
    let a = state g.S.Store c.args.tx.now.conn.now in
    let m = state g.S.Store c.loop-entry.tx.conn.now in
    all_made (λ now e. without_shown c.args.suites.now e now) c.args.entries.now c.loop-entry.entry-index a m c.loop-entry-test.false (c.loop-entry.invariant.made clean inside)
