use Rattle.std.proofs.Common.{◌≡◌, true, length, Some, inl, inr, sym, ap, subst, ◌∙◌}
use Rattle.std.proofs.lemmas.Result.{err_from_is_err_and}
use Rattle.suites.specs.Plan as plans
use Rattle.history.specs.Answers.{is_free_removal}
use Rattle.history.specs.Archives.{book_of, suite_named}
use Rattle.history.specs.Histories.{Removing}
use Rattle.history.specs.Removals.{removal_fault}
use Rattle.history.specs.declared.fault.Fault.TheVariants.{Moment}
use Rattle.history.proofs.Amended.{left_past}
use Rattle.history.proofs.RemovalAnswers.{done_removal, free_removal, late_fault, left_removal, may_remove, no_fault, nothing_fault, planned_removal, refused_removal, unknown_fault, unknown_in}
use Rattle.history.proofs.Kept.{same_by, same_past, untouched}
use Rattle.history.proofs.StepAnswers.{keeper_step, keepers_own, memory_own, memory_step}
use Rattle.queue.proofs.archive.Archive.remove.Goals as goal

pub returns-then-moment-gt-LATEST-clause-step : goal.returns-then-moment-gt-LATEST-clause-step
returns-then-moment-gt-LATEST-clause-step g c h kept faithful clean =
    refused_removal g.K.Keeper.may_fail h c.args.suite.now c.args.name.now c.args.moment Moment _ _ _ _ kept (untouched _ _)
    (late_fault (book_of h) c.args.suite.now c.args.name.now c.args.moment c.if-moment-gt-LATEST.true)

pub returns-then-moment-gt-LATEST-clause-refused :
    goal.returns-then-moment-gt-LATEST-clause-refused
returns-then-moment-gt-LATEST-clause-refused g c clean =
    inl (late_fault (g.K.Keeper.book c.args.self.now.keeper) c.args.suite.now c.args.name.now c.args.moment c.if-moment-gt-LATEST.true)

pub returns-in_err-place-clause-step : goal.returns-in_err-place-clause-step
returns-in_err-place-clause-step g c h kept faithful clean =
    let p = err_from_is_err_and c.from_residual.result c.from_residual.ensures.1 in
    rw (p.1, p.2) (refused_removal g.K.Keeper.may_fail h c.args.suite.now c.args.name.now c.args.moment c.in_err-place.field-0.0 _ _ _ _ kept (untouched _ _)
    (unknown_in _ _ h c.config.result.now c.args.suite.now c.args.name.now c.args.moment c.in_err-place.field-0.0
    kept c.if-moment-gt-LATEST.false c.config.ensures c.in_err-place.ensures.refused))

pub returns-in_err-place-clause-refused : goal.returns-in_err-place-clause-refused
returns-in_err-place-clause-refused g c clean =
    let p = err_from_is_err_and c.from_residual.result c.from_residual.ensures.1 in
    rw (p.1, p.2) (inl (unknown_fault (g.K.Keeper.book c.args.self.now.keeper) c.config.result.now c.args.suite.now c.args.name.now c.args.moment c.in_err-place.field-0.0
    c.if-moment-gt-LATEST.false c.config.ensures c.in_err-place.ensures.refused))

pub returns-in_err-shelves-clause-step : goal.returns-in_err-shelves-clause-step
returns-in_err-shelves-clause-step g c h kept faithful clean =
    let p = err_from_is_err_and c.from_residual-in_err-shelves.result c.from_residual-in_err-shelves.ensures.1 in
    rw p.1 (keeper_step g.K.Keeper.may_fail h (Removing c.args.suite.now c.args.name.now c.args.moment) c.in_err-shelves.field-0.0 p.0 _ _ _ _ p.2 kept
    (same_by c.in_err-shelves.ensures.reads.lasts clean c.in_err-shelves.ensures.reads.same) c.in_err-shelves.ensures.cause
    (free_removal h (g.K.Keeper.book c.args.self.now.keeper) c.config.result.now c.args.suite.now c.args.name.now c.args.moment c.in_ok-place.place
    _ kept c.config.ensures c.if-moment-gt-LATEST.false c.in_ok-place.ensures.suite))

pub returns-in_err-plan-clause-step : goal.returns-in_err-plan-clause-step
returns-in_err-plan-clause-step g c h kept faithful clean =
    let p = err_from_is_err_and c.from_residual-in_err-plan.result c.from_residual-in_err-plan.ensures.1 in
    let up = c.in_ok-shelves.ensures.served clean in
    let stands = kept.stands (c.in_ok-shelves.ensures.reads.lasts.was_open clean up) in
    let read = same_by c.in_ok-shelves.ensures.reads.lasts clean c.in_ok-shelves.ensures.reads.same in
    rw (p.1, p.2) (elim c.in_err-plan.ensures.refused [
      | inl memory ↦ memory_step g.K.Keeper.may_fail h (Removing c.args.suite.now c.args.name.now c.args.moment) c.in_err-plan.field-0.0 _ _ _ _ memory kept read
      | inr nothing ↦ refused_removal g.K.Keeper.may_fail h c.args.suite.now c.args.name.now c.args.moment c.in_err-plan.field-0.0 _ _ _ _ kept read
          (ap (λ b. removal_fault b c.args.suite.now c.args.name.now c.args.moment) (sym stands)
          ∙ nothing_fault (g.K.Keeper.book c.args.self.now.keeper) c.config.result.now c.in_ok-shelves.shelves c.args.suite.now c.args.name.now c.args.moment c.in_ok-place.place
          c.if-moment-gt-LATEST.false c.config.ensures (c.in_ok-shelves.ensures.shelves clean) c.in_ok-place.ensures.suite nothing.1 ∙ ap Some (sym nothing.0))
    ])

pub returns-in_err-plan-clause-refused : goal.returns-in_err-plan-clause-refused
returns-in_err-plan-clause-refused g c clean =
    let p = err_from_is_err_and c.from_residual-in_err-plan.result c.from_residual-in_err-plan.ensures.1 in
    rw (p.1, p.2) (elim c.in_err-plan.ensures.refused [
      | inl memory ↦ inr (rw memory tt)
      | inr nothing ↦ inl (nothing_fault (g.K.Keeper.book c.args.self.now.keeper) c.config.result.now c.in_ok-shelves.shelves c.args.suite.now c.args.name.now c.args.moment c.in_ok-place.place
          c.if-moment-gt-LATEST.false c.config.ensures (c.in_ok-shelves.ensures.shelves clean) c.in_ok-place.ensures.suite nothing.1 ∙ ap Some (sym nothing.0))
    ])

pub returns-in_err-steps-clause-step : goal.returns-in_err-steps-clause-step
returns-in_err-steps-clause-step g c h kept faithful clean =
    let p = err_from_is_err_and c.from_residual-in_err-steps.result c.from_residual-in_err-steps.ensures.1 in
    rw p.1 (memory_step g.K.Keeper.may_fail h (Removing c.args.suite.now c.args.name.now c.args.moment) p.0 _ _ _ _ p.2 kept
    (same_by c.in_ok-shelves.ensures.reads.lasts clean c.in_ok-shelves.ensures.reads.same))

pub only_step-requires : goal.only_step-requires
only_step-requires g c = (plans.after_removal c.in_ok-shelves.shelves c.in_ok-place.place c.args.name.now, c.in_ok-plan.ensures.plan.step)

pub amend-requires-clause-planned : goal.amend-requires-clause-planned
amend-requires-clause-planned g c clean up =
    planned_removal c.args.moment (g.K.Keeper.book c.args.self.now.keeper) (g.K.Keeper.book c.shelves.new.self) c.in_ok-shelves.shelves c.only_step.new.shelves c.in_ok-place.place
    c.args.name.now c.in_ok-plan.plan c.in_ok-steps.steps
    (c.in_ok-shelves.ensures.reads.same clean up) (c.in_ok-shelves.ensures.shelves clean) c.in_ok-steps.ensures.steps c.in_ok-plan.ensures.plan c.in_ok-steps.ensures.shelves

pub returns-in_err-amend-clause-step : goal.returns-in_err-amend-clause-step
returns-in_err-amend-clause-step g c h kept faithful clean =
    let p = err_from_is_err_and c.from_residual-in_err-amend.result c.from_residual-in_err-amend.ensures.1 in
    let read = same_by c.in_ok-shelves.ensures.reads.lasts (c.in_err-amend.ensures.lasts.clean clean) c.in_ok-shelves.ensures.reads.same in
    rw p.1 (keeper_step g.K.Keeper.may_fail h (Removing c.args.suite.now c.args.name.now c.args.moment) c.in_err-amend.field-0.0 p.0 _ _ _ _ p.2 kept
    (same_past read (same_by c.in_err-amend.ensures.lasts clean c.in_err-amend.ensures.err)) c.in_err-amend.ensures.cause
    (free_removal h (g.K.Keeper.book c.args.self.now.keeper) c.config.result.now c.args.suite.now c.args.name.now c.args.moment c.in_ok-place.place
    _ kept c.config.ensures c.if-moment-gt-LATEST.false c.in_ok-place.ensures.suite))

pub returns-clause-step : goal.returns-clause-step
returns-clause-step g c h kept faithful clean =
    let up = c.in_ok-amend.ensures.served clean in
    let clean_then = c.in_ok-amend.ensures.lasts.clean clean in
    let up_then = c.in_ok-amend.ensures.lasts.was_open clean up in
    done_removal g.K.Keeper.may_fail h c.args.suite.now c.args.name.now c.args.moment c.in_ok-place.place
    (g.K.Keeper.book c.args.self.now.keeper) (g.K.Keeper.book c.shelves.new.self) c.in_ok-shelves.shelves c.in_ok-plan.plan c.in_ok-steps.steps
    (kept.stands (c.in_ok-shelves.ensures.reads.lasts.was_open clean_then up_then)) faithful c.if-moment-gt-LATEST.false
    (c.in_ok-shelves.ensures.reads.same clean_then up_then) (c.in_ok-shelves.ensures.shelves clean_then) c.in_ok-steps.ensures.steps
    (subst (λ config. suite_named config c.args.suite.now ≡ Some c.in_ok-place.place) c.config.ensures c.in_ok-place.ensures.suite)
    c.in_ok-plan.ensures.plan
    _ (g.K.Keeper.book c.amend.new.self.keeper) _ (c.in_ok-amend.ensures.ok clean) (ap length c.as_slice.ensures)

pub returns-clause-done : goal.returns-clause-done
returns-clause-done g c clean =
    no_fault (g.K.Keeper.book c.args.self.now.keeper) c.config.result.now c.in_ok-shelves.shelves c.args.suite.now c.args.name.now c.args.moment c.in_ok-place.place
    c.if-moment-gt-LATEST.false c.config.ensures (c.in_ok-shelves.ensures.shelves (c.in_ok-amend.ensures.lasts.clean clean)) c.in_ok-place.ensures.suite c.in_ok-plan.ensures.plan.shows

pub returns-in_err-shelves-clause-refused : goal.returns-in_err-shelves-clause-refused
returns-in_err-shelves-clause-refused g c clean =
    let p = err_from_is_err_and c.from_residual-in_err-shelves.result c.from_residual-in_err-shelves.ensures.1 in
    rw p.1 (inr (keepers_own g.K.Keeper.may_fail (is_free_removal (g.K.Keeper.book c.args.self.now.keeper).config c.args.suite.now c.args.moment ≡ true) c.in_err-shelves.field-0.0 p.0 p.2 c.in_err-shelves.ensures.cause
    (may_remove (g.K.Keeper.book c.args.self.now.keeper) c.config.result.now c.args.suite.now c.args.moment c.in_ok-place.place
    c.config.ensures c.if-moment-gt-LATEST.false c.in_ok-place.ensures.suite)))

pub returns-in_err-steps-clause-refused : goal.returns-in_err-steps-clause-refused
returns-in_err-steps-clause-refused g c clean =
    let p = err_from_is_err_and c.from_residual-in_err-steps.result c.from_residual-in_err-steps.ensures.1 in
    rw p.1 (inr (memory_own g.K.Keeper.may_fail (is_free_removal (g.K.Keeper.book c.args.self.now.keeper).config c.args.suite.now c.args.moment ≡ true) p.0 p.2))

pub returns-in_err-amend-clause-refused : goal.returns-in_err-amend-clause-refused
returns-in_err-amend-clause-refused g c clean =
    let p = err_from_is_err_and c.from_residual-in_err-amend.result c.from_residual-in_err-amend.ensures.1 in
    rw p.1 (inr (keepers_own g.K.Keeper.may_fail (is_free_removal (g.K.Keeper.book c.args.self.now.keeper).config c.args.suite.now c.args.moment ≡ true) c.in_err-amend.field-0.0 p.0 p.2 c.in_err-amend.ensures.cause
    (may_remove (g.K.Keeper.book c.args.self.now.keeper) c.config.result.now c.args.suite.now c.args.moment c.in_ok-place.place
    c.config.ensures c.if-moment-gt-LATEST.false c.in_ok-place.ensures.suite)))

pub returns-then-moment-gt-LATEST-clause-crash : goal.returns-then-moment-gt-LATEST-clause-crash
returns-then-moment-gt-LATEST-clause-crash g c h kept faithful clean left may = inl may

pub returns-in_err-place-clause-crash : goal.returns-in_err-place-clause-crash
returns-in_err-place-clause-crash g c h kept faithful clean left may = inl may

pub returns-in_err-shelves-clause-crash : goal.returns-in_err-shelves-clause-crash
returns-in_err-shelves-clause-crash g c h kept faithful clean left may = inl (c.in_err-shelves.ensures.reads.crash clean left may)

pub returns-in_err-plan-clause-crash : goal.returns-in_err-plan-clause-crash
returns-in_err-plan-clause-crash g c h kept faithful clean left may = inl (c.in_ok-shelves.ensures.reads.crash clean left may)

pub returns-in_err-steps-clause-crash : goal.returns-in_err-steps-clause-crash
returns-in_err-steps-clause-crash g c h kept faithful clean left may = inl (c.in_ok-shelves.ensures.reads.crash clean left may)

pub returns-in_err-amend-clause-crash : goal.returns-in_err-amend-clause-crash
returns-in_err-amend-clause-crash g c h kept faithful clean left may =
    left_past c.in_ok-shelves.ensures.reads c.in_err-amend.ensures.lasts _ c.in_err-amend.ensures.crash clean left may _ (λ clean_then up_then made.
    left_removal g.K.Keeper.may_fail h c.args.suite.now c.args.name.now c.args.moment c.in_ok-place.place
    (g.K.Keeper.book c.args.self.now.keeper) (g.K.Keeper.book c.shelves.new.self) c.in_ok-shelves.shelves c.in_ok-plan.plan c.in_ok-steps.steps
    (kept.stands (c.in_ok-shelves.ensures.reads.lasts.was_open clean_then up_then)) faithful c.if-moment-gt-LATEST.false
    (c.in_ok-shelves.ensures.reads.same clean_then up_then) (c.in_ok-shelves.ensures.shelves clean_then) c.in_ok-steps.ensures.steps
    (subst (λ config. suite_named config c.args.suite.now ≡ Some c.in_ok-place.place) c.config.ensures c.in_ok-place.ensures.suite)
    c.in_ok-plan.ensures.plan
    left made)

pub returns-clause-crash : goal.returns-clause-crash
returns-clause-crash g c h kept faithful clean left may =
    left_past c.in_ok-shelves.ensures.reads c.in_ok-amend.ensures.lasts _ c.in_ok-amend.ensures.crash clean left may _ (λ clean_then up_then made.
    left_removal g.K.Keeper.may_fail h c.args.suite.now c.args.name.now c.args.moment c.in_ok-place.place
    (g.K.Keeper.book c.args.self.now.keeper) (g.K.Keeper.book c.shelves.new.self) c.in_ok-shelves.shelves c.in_ok-plan.plan c.in_ok-steps.steps
    (kept.stands (c.in_ok-shelves.ensures.reads.lasts.was_open clean_then up_then)) faithful c.if-moment-gt-LATEST.false
    (c.in_ok-shelves.ensures.reads.same clean_then up_then) (c.in_ok-shelves.ensures.shelves clean_then) c.in_ok-steps.ensures.steps
    (subst (λ config. suite_named config c.args.suite.now ≡ Some c.in_ok-place.place) c.config.ensures c.in_ok-place.ensures.suite)
    c.in_ok-plan.ensures.plan
    left made)
