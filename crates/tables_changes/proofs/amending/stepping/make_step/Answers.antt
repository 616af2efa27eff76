use Rattle.std.proofs.Common.{◌+◌, arith}
use Rattle.std.specs.Option.{option_map_or}
use Rattle.tables_meaning.specs.Making.{with_judged}
use Rattle.sqlite.specs.State.{HasCleanDisk}
use Rattle.sqlite.specs.Held.{state}
use Rattle.tables_meaning.proofs.AmendLemmas.{makes_as, makes_then, has_bodies, judgement_keeps, step_as}
use Rattle.tables_changes.proofs.amending.stepping.make_step.Goals as goal

pub returns-clause-ok : goal.returns-clause-ok
returns-clause-ok g c clean inside =
    let a = state g.S.Store c.args.tx.now.conn.now in
    let b = state g.S.Store c.judge_if_any.new.tx.conn.now in
    let d = state g.S.Store c.make_plan.new.tx.conn.now in
    let early : HasCleanDisk b = omega (arith, c.make_plan.ensures.survives.clean, clean) in
    let first = c.in_ok-after.ensures.ok early inside in
    makes_as a d _ _ (λ t was. step_as c.args.suites.now c.args.judged c.args.step.now t) (makes_then a b d _ _ first (c.in_ok-make_plan.ensures.ok clean first.mode))

pub returns-clause-bodies : goal.returns-clause-bodies
returns-clause-bodies g c clean inside t was =
    let a = state g.S.Store c.args.tx.now.conn.now in
    let b = state g.S.Store c.judge_if_any.new.tx.conn.now in
    let early : HasCleanDisk b = omega (arith, c.make_plan.ensures.survives.clean, clean) in
    let first = c.in_ok-after.ensures.ok early inside in
    has_bodies t (option_map_or (λ j. with_judged (c.args.judged + 1) j t) c.args.step.now.judgement t) c.args.step.now.plan.files_added (judgement_keeps c.args.judged c.args.step.now.judgement t) (c.in_ok-make_plan.ensures.bodies clean first.mode _ (first.held t was))
