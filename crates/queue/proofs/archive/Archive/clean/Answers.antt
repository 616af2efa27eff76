use Rattle.std.proofs.Common.{◌≤◌, inl, inr}
use Rattle.std.proofs.lemmas.Result.{err_from_is_err_and}
use Rattle.book.specs.Book.{latest}
use Rattle.history.specs.Histories.{Cleaning}
use Rattle.history.specs.declared.fault.Fault.TheVariants.{Moment}
use Rattle.history.proofs.Kept.{same_by, untouched}
use Rattle.history.proofs.StepAnswers.{cleaned_left, cleaned_step, free_cleaning, keeper_step, keepers_own, late_cleaning, refused_step}
use Rattle.queue.proofs.archive.Archive.clean.Goals as goal

pub returns-then-moment-gt-LATEST-clause-step : goal.returns-then-moment-gt-LATEST-clause-step
returns-then-moment-gt-LATEST-clause-step g c h kept faithful clean =
    refused_step g.K.Keeper.may_fail h (Cleaning c.args.moment) Moment _ _ _ _ kept (untouched _ _) (late_cleaning g.K.Keeper.may_fail h c.args.moment c.if-moment-gt-LATEST.true)

pub returns-then-moment-gt-LATEST-clause-refused : goal.returns-then-moment-gt-LATEST-clause-refused
returns-then-moment-gt-LATEST-clause-refused g c = inl c.if-moment-gt-LATEST.true

pub returns-then-moment-gt-LATEST-clause-crash : goal.returns-then-moment-gt-LATEST-clause-crash
returns-then-moment-gt-LATEST-clause-crash g c h kept faithful clean left may = inl may

pub returns-in_err-clean-clause-step : goal.returns-in_err-clean-clause-step
returns-in_err-clean-clause-step g c h kept faithful clean =
    let p = err_from_is_err_and c.from_residual.result c.from_residual.ensures.1 in
    rw p.1 (keeper_step g.K.Keeper.may_fail h (Cleaning c.args.moment) c.in_err-clean.field-0.0 p.0 _ _ _ _ p.2 kept
    (same_by c.in_err-clean.ensures.lasts clean c.in_err-clean.ensures.err) c.in_err-clean.ensures.cause
    (free_cleaning h c.args.moment c.if-moment-gt-LATEST.false))

pub returns-in_err-clean-clause-refused : goal.returns-in_err-clean-clause-refused
returns-in_err-clean-clause-refused g c =
    let p = err_from_is_err_and c.from_residual.result c.from_residual.ensures.1 in
    rw p.1 (inr (keepers_own g.K.Keeper.may_fail (c.args.moment ≤ latest) c.in_err-clean.field-0.0 p.0 p.2 c.in_err-clean.ensures.cause c.if-moment-gt-LATEST.false))

pub returns-in_err-clean-clause-crash : goal.returns-in_err-clean-clause-crash
returns-in_err-clean-clause-crash g c h kept faithful clean left may = elim (c.in_err-clean.ensures.crash clean left may) [
  | inl before ↦ inl before
  | inr made ↦ inr (cleaned_left g.K.Keeper.may_fail h c.args.moment _ (g.K.Keeper.book c.args.self.now.keeper) left kept c.if-moment-gt-LATEST.false made)
]

pub returns-clause-step : goal.returns-clause-step
returns-clause-step g c h kept faithful clean =
    let up = c.in_ok-clean.ensures.served clean in
    cleaned_step g.K.Keeper.may_fail h c.args.moment _ _ _ _ (kept.stands (c.in_ok-clean.ensures.lasts.was_open clean up)) c.if-moment-gt-LATEST.false
    (c.in_ok-clean.ensures.count clean) (c.in_ok-clean.ensures.ok clean)

pub returns-clause-crash : goal.returns-clause-crash
returns-clause-crash g c h kept faithful clean left may = elim (c.in_ok-clean.ensures.crash clean left may) [
  | inl before ↦ inl before
  | inr made ↦ inr (cleaned_left g.K.Keeper.may_fail h c.args.moment _ (g.K.Keeper.book c.args.self.now.keeper) left kept c.if-moment-gt-LATEST.false made)
]
