use Rattle.std.proofs.Common.{List, sym, ap, subst, ◌∙◌}
use Rattle.suites.specs.Plan.{references}
use Rattle.suites.specs.PoolChange.{ListsExactly, gained, lost}
use Rattle.suites.specs.declared.plan.Plan.{Plan}
use Rattle.suites.specs.declared.plan.Reference.{Reference}
use Rattle.std.proofs.lemmas.Result.{IfOk-weaker}
use Rattle.suites.proofs.AdmissionStep.{admission-step}
use Rattle.suites.proofs.admission.plan_admission.Goals as goal

pub returns-clause-step : goal.returns-clause-step
returns-clause-step c =
    IfOk-weaker c.plan_of.result _ _ (λ (plan : Plan) is.
    admission-step c.args.shelves.now c.args.suite c.args.items.items c.requires c.in_ok-items.items.entries plan c.agree.ensures
    c.in_ok-items.ensures.sorted c.in_ok-items.ensures.stand
    (is.put_are ∙ c.in_ok-put.ensures.put)
    (is.dropped_are ∙ c.in_ok-put.ensures.dropped)
    (is.references_put ∙ ap references (sym is.put_are))
    (is.references_dropped ∙ ap references (sym is.dropped_are))
    (subst (λ (r : List Reference). ListsExactly plan.files_added (gained c.args.shelves.now r)) (sym is.references_put) is.added)
    (subst (λ (p : List Reference × List Reference). ListsExactly plan.files_removed (lost c.args.shelves.now p.0 p.1)) (λ i. (sym is.references_put i, sym is.references_dropped i)) is.removed))
    c.plan_of.ensures.plan
