use Rattle.std.proofs.Common.{List, subst, ◌∙◌}
use Rattle.std.proofs.lemmas.Result.{IfOk-weaker}
use Rattle.suites.specs.PoolChange.{IsPlanOf}
use Rattle.suites.specs.declared.item.Item.{Item}
use Rattle.suites.specs.declared.key.ShelfKey.{ShelfKey}
use Rattle.suites.specs.declared.plan.Plan.{Plan}
use Rattle.suites.proofs.RemovalLemmas.{removal-step, told_after_removal}
use Rattle.suites.proofs.removal_plan.plan_remove.Goals as goal

pub returns-clause-step : goal.returns-clause-step
returns-clause-step c =
    let shelves = c.args.shelves.now in
    IfOk-weaker c.plan_of.result _ _ (λ (plan : Plan) is. removal-step shelves c.args.suite c.args.name.now plan c.agree.ensures
    (subst (λ (p : List (ShelfKey × Item) × List (ShelfKey × Item)). IsPlanOf shelves p.0 p.1 plan) (λ i. (c.new.ensures.items i, c.in_ok-dropped.ensures i)) is))
    c.plan_of.ensures.plan

pub returns-clause-told : goal.returns-clause-told
returns-clause-told c = told_after_removal c.args.shelves.now c.args.suite c.args.name.now c.args.config.now.suites

pub returns-in_err-dropped-clause-told : goal.returns-in_err-dropped-clause-told
returns-in_err-dropped-clause-told c = told_after_removal c.args.shelves.now c.args.suite c.args.name.now c.args.config.now.suites

pub returns-clause-put : goal.returns-clause-put
returns-clause-put c = IfOk-weaker c.plan_of.result _ _ (λ (plan : Plan) is. is.put_are ∙ c.new.ensures.items) c.plan_of.ensures.plan

pub returns-clause-dropped : goal.returns-clause-dropped
returns-clause-dropped c = IfOk-weaker c.plan_of.result _ _ (λ (plan : Plan) is. is.dropped_are ∙ c.in_ok-dropped.ensures) c.plan_of.ensures.plan
