use Rattle.std.proofs.Common.{◌≤◌, inl, inr, ap, ◌∙◌}
use Rattle.std.specs.Prelude.{map}
use Rattle.std.proofs.lemmas.Result.{err_from_is_err_and}
use Rattle.book.specs.Book.{latest}
use Rattle.history.specs.Answers.{line_on_waiting}
use Rattle.history.specs.Histories.{WaitingList}
use Rattle.history.specs.declared.fault.Fault.TheVariants.{Moment}
use Rattle.history.proofs.Kept.{same_by, untouched}
use Rattle.book.proofs.ReadLemmas.{reads_none}
use Rattle.history.proofs.StepAnswers.{free_waiting, keeper_step, keepers_own, late_waiting, memory_own, memory_step, refused_step, waiting_step}
use Rattle.queue.proofs.archive.Archive.waiting.Goals as goal

pub returns-then-moment-gt-LATEST-clause-step : goal.returns-then-moment-gt-LATEST-clause-step
returns-then-moment-gt-LATEST-clause-step g c h kept faithful clean =
    refused_step g.K.Keeper.may_fail h (WaitingList c.args.moment) Moment _ _ _ _ kept (untouched _ _) (late_waiting g.K.Keeper.may_fail h c.args.moment c.if-moment-gt-LATEST.true)

pub returns-in_err-uploads-clause-step : goal.returns-in_err-uploads-clause-step
returns-in_err-uploads-clause-step g c h kept faithful clean =
    let p = err_from_is_err_and c.from_residual.result c.from_residual.ensures.1 in
    rw p.1 (keeper_step g.K.Keeper.may_fail h (WaitingList c.args.moment) c.in_err-uploads.field-0.0 p.0 _ _ _ _ p.2 kept
    (same_by c.in_err-uploads.ensures.reads.lasts clean c.in_err-uploads.ensures.reads.same) c.in_err-uploads.ensures.cause
    (free_waiting h c.args.moment c.if-moment-gt-LATEST.false))

pub returns-in_err-waiting_lines-clause-step : goal.returns-in_err-waiting_lines-clause-step
returns-in_err-waiting_lines-clause-step g c h kept faithful clean =
    let p = err_from_is_err_and c.from_residual-in_err-waiting_lines.result c.from_residual-in_err-waiting_lines.ensures.1 in
    rw p.1 (memory_step g.K.Keeper.may_fail h (WaitingList c.args.moment) p.0 _ _ _ _ p.2 kept
    (same_by c.in_ok-uploads.ensures.reads.lasts clean c.in_ok-uploads.ensures.reads.same))

pub returns-clause-step : goal.returns-clause-step
returns-clause-step g c h kept faithful clean =
    let up = c.in_ok-uploads.ensures.served clean in
    waiting_step g.K.Keeper.may_fail h c.args.moment _ _ _ c.in_ok-uploads.uploads.items _ (kept.stands (c.in_ok-uploads.ensures.reads.lasts.was_open clean up)) faithful c.if-moment-gt-LATEST.false
    (c.in_ok-uploads.ensures.waiting clean)
    (c.in_ok-waiting_lines.ensures ∙ ap (map line_on_waiting) c.deref.ensures.value)
    (c.in_ok-uploads.ensures.reads.same clean up)

pub returns-then-moment-gt-LATEST-clause-refused : goal.returns-then-moment-gt-LATEST-clause-refused
returns-then-moment-gt-LATEST-clause-refused g c = inl c.if-moment-gt-LATEST.true

pub returns-in_err-uploads-clause-refused : goal.returns-in_err-uploads-clause-refused
returns-in_err-uploads-clause-refused g c =
    let p = err_from_is_err_and c.from_residual.result c.from_residual.ensures.1 in
    rw p.1 (inr (keepers_own g.K.Keeper.may_fail (c.args.moment ≤ latest) c.in_err-uploads.field-0.0 p.0 p.2 c.in_err-uploads.ensures.cause c.if-moment-gt-LATEST.false))

pub returns-in_err-waiting_lines-clause-refused : goal.returns-in_err-waiting_lines-clause-refused
returns-in_err-waiting_lines-clause-refused g c =
    let p = err_from_is_err_and c.from_residual-in_err-waiting_lines.result c.from_residual-in_err-waiting_lines.ensures.1 in
    rw p.1 (inr (memory_own g.K.Keeper.may_fail (c.args.moment ≤ latest) p.0 p.2))

pub returns-then-moment-gt-LATEST-clause-reads : goal.returns-then-moment-gt-LATEST-clause-reads
returns-then-moment-gt-LATEST-clause-reads g c = reads_none _

pub returns-in_err-uploads-clause-reads : goal.returns-in_err-uploads-clause-reads
returns-in_err-uploads-clause-reads g c = c.in_err-uploads.ensures.reads

pub returns-in_err-waiting_lines-clause-reads : goal.returns-in_err-waiting_lines-clause-reads
returns-in_err-waiting_lines-clause-reads g c = c.in_ok-uploads.ensures.reads

pub returns-clause-reads : goal.returns-clause-reads
returns-clause-reads g c = c.in_ok-uploads.ensures.reads
