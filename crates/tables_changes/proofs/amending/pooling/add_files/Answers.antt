use Rattle.std.proofs.Common.{IsTrue, ◌∙◌, arith, take, subst, is_some}
use Rattle.sqlite.specs.State.{HasCleanDisk}
use Rattle.sqlite.specs.Held.{state}
use Rattle.tables.specs.Bodies.{body_with}
use Rattle.tables_meaning.specs.Making.{with_pooled}
use Rattle.tables_meaning.proofs.AmendLemmas.{one_more, all_made, survives_both, so_far, all_more, all_of, all_pooled_keep}
use Rattle.tables_changes.proofs.amending.pooling.add_files.Goals as goal

pub loop-file-preserved : goal.loop-file-preserved
loop-file-preserved g c =
    let a = state g.S.Store c.args.tx.now.conn.now in
    let m = state g.S.Store c.loop-file.tx.conn.now in
    let b = state g.S.Store c.add_file.new.tx.conn.now in
    record {
      reference = c.add_file.ensures.same_reference ∙ c.loop-file.invariant.reference;
      survives = survives_both a m b c.loop-file.invariant.survives c.add_file.ensures.survives;
      made = λ clean inside.
          let early : HasCleanDisk m = omega (arith, c.add_file.ensures.survives.clean, clean) in
          let was = c.loop-file.invariant.made early inside in
          one_more (λ now f. with_pooled f now) c.args.files.now c.loop-file.file-index c.file-item.result a m b c.loop-file-test.true c.file-item.is was (c.in_ok-add_file.ensures.ok clean was.mode);
      bodies = λ clean inside t was.
          let early : HasCleanDisk m = omega (arith, c.add_file.ensures.survives.clean, clean) in
          let made = c.loop-file.invariant.made early inside in
          all_more (λ f. IsTrue (is_some (body_with f.print t.bodies))) c.args.files.now c.loop-file.file-index c.file-item.result c.loop-file-test.true c.file-item.is (c.loop-file.invariant.bodies early inside t was)
          (subst (λ bodies. IsTrue (is_some (body_with c.file-item.result.print bodies))) (all_pooled_keep (take c.loop-file.file-index c.args.files.now) t)
          (c.in_ok-add_file.ensures.bodies clean made.mode (so_far (λ now f. with_pooled f now) c.args.files.now c.loop-file.file-index t) (made.held t was)));
    }

pub returns-clause-ok : goal.returns-clause-ok
returns-clause-ok g c clean inside =
    let a = state g.S.Store c.args.tx.now.conn.now in
    let m = state g.S.Store c.loop-file.tx.conn.now in
    all_made (λ now f. with_pooled f now) c.args.files.now c.loop-file.file-index a m c.loop-file-test.false (c.loop-file.invariant.made clean inside)

pub returns-clause-bodies : goal.returns-clause-bodies
returns-clause-bodies g c clean inside t was =
    all_of (λ f. IsTrue (is_some (body_with f.print t.bodies))) c.args.files.now c.loop-file.file-index c.loop-file-test.false (c.loop-file.invariant.bodies clean inside t was)
