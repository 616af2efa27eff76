use Rattle.std.proofs.Common.{◌≡◌, ℕ, List, ◌∷◌, ◌+◌, ◌<◌, drop, get_or, length, ap, ◌∙◌, sym, subst}
use Rattle.std.proofs.lemmas.List.{drop_more}
use Rattle.book.specs.Book.{shown_past}
use Rattle.book.specs.Keeping.{AreSteps}
use Rattle.book.specs.declared.change.Step.{Step}
use Rattle.keep.proofs.shelves.shelves_after.Goals as goal

-- the steps from a place on are the step there and those after it
next : (steps : List Step) (i : ℕ) (step : Step) → i < length steps → step ≡ get_or steps i step → drop i steps ≡ step ∷ drop (i + 1) steps
next steps i step within is = drop_more steps i step within ∙ ap (λ x. x ∷ drop (i + 1) steps) (sym is)

pub apply-requires : goal.apply-requires
apply-requires c =
    (subst (AreSteps c.loop-step.after) (next c.args.steps.now c.loop-step.step-index c.step-item.result c.loop-step-test.true c.step-item.is) c.loop-step.invariant.steps).0

pub loop-step-preserved : goal.loop-step-preserved
loop-step-preserved c =
    let here : drop c.loop-step.step-index c.args.steps.now ≡ c.step-item.result ∷ drop (c.loop-step.step-index + 1) c.args.steps.now =
    next c.args.steps.now c.loop-step.step-index c.step-item.result c.loop-step-test.true c.step-item.is in
    let rest = drop (c.loop-step.step-index + 1) c.args.steps.now in
    record {
      steps = subst (λ shown. AreSteps shown rest) (sym c.in_ok-apply.ensures.ok) (subst (AreSteps c.loop-step.after) here c.loop-step.invariant.steps).1;
      shown =
          ap (λ shown. shown_past shown rest) c.in_ok-apply.ensures.ok
          ∙ ap (shown_past c.loop-step.after) (sym here)
          ∙ c.loop-step.invariant.shown;
    }
