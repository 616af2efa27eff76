use Rattle.std.proofs.Common.{◌∙◌, arith, if◌then◌else◌}
use Rattle.sqlite.specs.State.{HasCleanDisk}
use Rattle.sqlite.specs.Held.{state}
use Rattle.std.specs.List.{enumerate_from}
use Rattle.std.proofs.lemmas.List.FromFn.{length-enumerate_from}
use Rattle.book.specs.Scan.{some_touches}
use Rattle.tables.specs.Dates.{with_new_date}
use Rattle.tables_meaning.proofs.AmendLemmas.{one_more, all_made, survives_both, numbered_at}
use Rattle.tables_changes.proofs.amending.renewing.renew_dates.Goals as goal

pub loop-at-preserved : goal.loop-at-preserved
loop-at-preserved g c =
    let a = state g.S.Store c.args.tx.now.conn.now in
    let m = state g.S.Store c.loop-at.tx.conn.now in
    let b = state g.S.Store c.renew_date.new.tx.conn.now in
    record {
      reference = c.renew_date.ensures.same_reference ∙ c.loop-at.invariant.reference;
      survives = survives_both a m b c.loop-at.invariant.survives c.renew_date.ensures.survives;
      made = λ clean inside.
          let early : HasCleanDisk m = omega (arith, c.renew_date.ensures.survives.clean, clean) in
          let was = c.loop-at.invariant.made early inside in
          one_more (λ now s. if some_touches s.0 c.args.steps.now then with_new_date s.1.codename c.args.moment now else now) (enumerate_from 0 c.args.suites.now) c.loop-at.at (c.loop-at.at, c.index-suites-at.result) a m b (omega (arith, length-enumerate_from 0 c.args.suites.now, c.loop-at-test.true)) (numbered_at 0 c.args.suites.now c.loop-at.at c.loop-at.at c.index-suites-at.result c.loop-at-test.true c.index-suites-at.is (omega arith) c.loop-at.at) was (c.in_ok-renew_date.ensures.ok clean was.mode);
    }

pub returns-clause-ok : goal.returns-clause-ok
returns-clause-ok g c clean inside =
    let a = state g.S.Store c.args.tx.now.conn.now in
    let m = state g.S.Store c.loop-at.tx.conn.now in
    all_made (λ now s. if some_touches s.0 c.args.steps.now then with_new_date s.1.codename c.args.moment now else now) (enumerate_from 0 c.args.suites.now) c.loop-at.at a m (omega (arith, length-enumerate_from 0 c.args.suites.now, c.loop-at-test.false)) (c.loop-at.invariant.made clean inside)
