use Rattle.std.proofs.Common.{◌≡◌, None, ◌∙◌, inl, inr}
use Rattle.std.proofs.lemmas.Result.{err_from_is_err_and}
use Rattle.history.specs.Deliveries.{delivery_fault}
use Rattle.history.specs.Histories.{Delivery}
use Rattle.history.proofs.Kept.{same_by, untouched}
use Rattle.history.proofs.StepAnswers.{refused_step, refused_delivery, fault_under, left_delivered, delivered_step, deliverable, free_delivery, keeper_step, keepers_own}
use Rattle.queue.proofs.archive.Archive.deliver.Goals as goal

pub returns-in_err-check_delivery-clause-step : goal.returns-in_err-check_delivery-clause-step
returns-in_err-check_delivery-clause-step g c h kept faithful clean =
    let p = err_from_is_err_and c.from_residual.result c.from_residual.ensures.1 in
    rw (p.1, p.2) (refused_step g.K.Keeper.may_fail h (Delivery c.args.name.now c.args.body.now c.args.moment) c.in_err-check_delivery.field-0.0 _ _ _ _ kept (untouched _ _)
    (refused_delivery g.K.Keeper.may_fail h c.config.result.now c.args.name.now c.args.body.now c.args.moment c.in_err-check_delivery.field-0.0 (c.config.ensures ∙ kept.config) c.in_err-check_delivery.ensures.judged))

pub returns-in_err-check_delivery-clause-refused : goal.returns-in_err-check_delivery-clause-refused
returns-in_err-check_delivery-clause-refused g c =
    let p = err_from_is_err_and c.from_residual.result c.from_residual.ensures.1 in
    rw (p.1, p.2) (elim c.in_err-check_delivery.ensures.judged [
      | inl memory ↦ inr (rw memory tt)
      | inr fault ↦ inl (fault_under c.config.result.now _ c.args.name.now c.args.body.now c.args.moment _ c.config.ensures fault)
    ])

pub arrive-requires-clause-deliverable : goal.arrive-requires-clause-deliverable
arrive-requires-clause-deliverable g c = deliverable c.config.result.now c.args.name.now c.args.body.now c.args.moment c.in_ok-check_delivery.ensures.judged

pub returns-in_err-arrive-clause-step : goal.returns-in_err-arrive-clause-step
returns-in_err-arrive-clause-step g c h kept faithful clean =
    let p = err_from_is_err_and c.from_residual-in_err-arrive.result c.from_residual-in_err-arrive.ensures.1 in
    rw p.1 (keeper_step g.K.Keeper.may_fail h (Delivery c.args.name.now c.args.body.now c.args.moment) c.in_err-arrive.field-0.0 p.0 _ _ _ _ p.2 kept
    (same_by c.in_err-arrive.ensures.lasts clean c.in_err-arrive.ensures.err) c.in_err-arrive.ensures.cause
    (free_delivery h c.config.result.now c.args.name.now c.args.body.now c.args.moment (c.config.ensures ∙ kept.config) c.in_ok-check_delivery.ensures.judged))

pub returns-in_err-arrive-clause-refused : goal.returns-in_err-arrive-clause-refused
returns-in_err-arrive-clause-refused g c =
    let p = err_from_is_err_and c.from_residual-in_err-arrive.result c.from_residual-in_err-arrive.ensures.1 in
    let config = (g.K.Keeper.book c.args.self.now.keeper).config in
    rw p.1 (inr (keepers_own g.K.Keeper.may_fail (delivery_fault config c.args.name.now c.args.body.now c.args.moment ≡ None) c.in_err-arrive.field-0.0 p.0 p.2 c.in_err-arrive.ensures.cause
    (fault_under c.config.result.now config c.args.name.now c.args.body.now c.args.moment None c.config.ensures c.in_ok-check_delivery.ensures.judged)))

pub returns-then-branch-clause-step : goal.returns-then-branch-clause-step
returns-then-branch-clause-step g c h kept faithful clean =
    let up = c.in_ok-arrive.ensures.served clean in
    let told = c.in_ok-arrive.ensures.new clean in
    delivered_step g.K.Keeper.may_fail h c.args.name.now c.args.body.now c.args.moment _ _ _ _ (kept.stands (c.in_ok-arrive.ensures.lasts.was_open clean up)) faithful
    (fault_under c.config.result.now _ c.args.name.now c.args.body.now c.args.moment None c.config.ensures c.in_ok-check_delivery.ensures.judged) (rw c.if-branch.true at told) (c.in_ok-arrive.ensures.ok clean)

pub returns-else-branch-clause-step : goal.returns-else-branch-clause-step
returns-else-branch-clause-step g c h kept faithful clean =
    let up = c.in_ok-arrive.ensures.served clean in
    let told = c.in_ok-arrive.ensures.new clean in
    delivered_step g.K.Keeper.may_fail h c.args.name.now c.args.body.now c.args.moment _ _ _ _ (kept.stands (c.in_ok-arrive.ensures.lasts.was_open clean up)) faithful
    (fault_under c.config.result.now _ c.args.name.now c.args.body.now c.args.moment None c.config.ensures c.in_ok-check_delivery.ensures.judged) (rw c.if-branch.false at told) (c.in_ok-arrive.ensures.ok clean)

pub returns-in_err-check_delivery-clause-crash : goal.returns-in_err-check_delivery-clause-crash
returns-in_err-check_delivery-clause-crash g c h kept clean left may = inl may

pub returns-in_err-arrive-clause-crash : goal.returns-in_err-arrive-clause-crash
returns-in_err-arrive-clause-crash g c h kept clean left may = elim (c.in_err-arrive.ensures.crash clean left may) [
  | inl before ↦ inl before
  | inr made ↦ inr (left_delivered g.K.Keeper.may_fail h c.args.name.now c.args.body.now c.args.moment _ (g.K.Keeper.book c.args.self.now.keeper) left kept
      (fault_under c.config.result.now _ c.args.name.now c.args.body.now c.args.moment None c.config.ensures c.in_ok-check_delivery.ensures.judged) made)
]

pub returns-then-branch-clause-crash : goal.returns-then-branch-clause-crash
returns-then-branch-clause-crash g c h kept clean left may = elim (c.in_ok-arrive.ensures.crash clean left may) [
  | inl before ↦ inl before
  | inr made ↦ inr (left_delivered g.K.Keeper.may_fail h c.args.name.now c.args.body.now c.args.moment _ (g.K.Keeper.book c.args.self.now.keeper) left kept
      (fault_under c.config.result.now _ c.args.name.now c.args.body.now c.args.moment None c.config.ensures c.in_ok-check_delivery.ensures.judged) made)
]

pub returns-else-branch-clause-crash : goal.returns-else-branch-clause-crash
returns-else-branch-clause-crash g c h kept clean left may = elim (c.in_ok-arrive.ensures.crash clean left may) [
  | inl before ↦ inl before
  | inr made ↦ inr (left_delivered g.K.Keeper.may_fail h c.args.name.now c.args.body.now c.args.moment _ (g.K.Keeper.book c.args.self.now.keeper) left kept
      (fault_under c.config.result.now _ c.args.name.now c.args.body.now c.args.moment None c.config.ensures c.in_ok-check_delivery.ensures.judged) made)
]

pub returns-then-branch-clause-done : goal.returns-then-branch-clause-done
returns-then-branch-clause-done g c =
    fault_under c.config.result.now _ c.args.name.now c.args.body.now c.args.moment None c.config.ensures c.in_ok-check_delivery.ensures.judged

pub returns-else-branch-clause-done : goal.returns-else-branch-clause-done
returns-else-branch-clause-done g c =
    fault_under c.config.result.now _ c.args.name.now c.args.body.now c.args.moment None c.config.ensures c.in_ok-check_delivery.ensures.judged
