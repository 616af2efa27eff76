use Rattle.std.proofs.Common.{◌+◌, take, fold, sym, ap, ◌∙◌, arith}
use Rattle.std.proofs.lemmas.List.{take_all}
use Rattle.std.proofs.lemmas.List.Sums.{fold_more}
use Rattle.sqlite.specs.State.{HasCleanDisk}
use Rattle.sqlite.specs.Held.{state}
use Rattle.tables_meaning.specs.Amending.{HasBodies}
use Rattle.tables_meaning.specs.Making.{judged_by, with_steps}
use Rattle.tables_meaning.proofs.AmendLemmas.{makes_as, makes_then, survives_both, has_bodies, steps_keep, steps_more, all_more, all_of}
use Rattle.tables_changes.proofs.amending.stepping.make_steps.Goals as goal

pub loop-step-preserved : goal.loop-step-preserved
loop-step-preserved g c =
    let a = state g.S.Store c.args.tx.now.conn.now in
    let m = state g.S.Store c.loop-step.tx.conn.now in
    let b = state g.S.Store c.make_step.new.tx.conn.now in
    let xs = c.args.steps.now in
    let i = c.loop-step.step-index in
    let x = c.step-item.result in
    record {
      reference = c.make_step.ensures.same_reference ∙ c.loop-step.invariant.reference;
      survives = survives_both a m b c.loop-step.invariant.survives c.make_step.ensures.survives;
      made = λ clean inside.
          let early : HasCleanDisk m = omega (arith, c.make_step.ensures.survives.clean, clean) in
          let was = c.loop-step.invariant.made early inside in
          let more = rw c.loop-step.invariant.judged at (c.in_ok-judged.ensures.ok clean was.mode) in
          makes_as a b _ (λ t. with_steps c.args.suites.now c.args.judged (take (i + 1) xs) t) (λ t held. steps_more c.args.suites.now c.args.judged xs i x c.loop-step-test.true c.step-item.is t) (makes_then a m b _ _ was more);
      judged = c.in_ok-judged.ensures.judged ∙ ap (λ n. judged_by n x) c.loop-step.invariant.judged ∙ ap (judged_by (fold judged_by c.args.judged (take i xs))) c.step-item.is ∙ sym (fold_more judged_by c.args.judged xs i x c.loop-step-test.true);
      bodies = λ clean inside t was.
          let early : HasCleanDisk m = omega (arith, c.make_step.ensures.survives.clean, clean) in
          let made = c.loop-step.invariant.made early inside in
          all_more (λ s. HasBodies t s.plan.files_added) xs i x c.loop-step-test.true c.step-item.is (c.loop-step.invariant.bodies early inside t was)
          (has_bodies t (with_steps c.args.suites.now c.args.judged (take i xs) t) x.plan.files_added (steps_keep c.args.suites.now c.args.judged (take i xs) t)
          (c.in_ok-judged.ensures.bodies clean made.mode _ (made.held t was)));
    }

pub returns-clause-ok : goal.returns-clause-ok
returns-clause-ok g c clean inside =
    let a = state g.S.Store c.args.tx.now.conn.now in
    let m = state g.S.Store c.loop-step.tx.conn.now in
    makes_as a m _ _ (λ t was. ap (λ ys. with_steps c.args.suites.now c.args.judged ys t) (take_all c.loop-step.step-index c.args.steps.now c.loop-step-test.false)) (c.loop-step.invariant.made clean inside)

pub returns-clause-bodies : goal.returns-clause-bodies
returns-clause-bodies g c clean inside t was =
    all_of (λ s. HasBodies t s.plan.files_added) c.args.steps.now c.loop-step.step-index c.loop-step-test.false (c.loop-step.invariant.bodies clean inside t was)
