use Rattle.std.proofs.Common.{ap, ◌∙◌}
use Rattle.std.specs.Prelude.{⊤, map}
use Rattle.std.proofs.lemmas.Result.{err_from_is_err_and}
use Rattle.history.specs.Answers.{report_line}
use Rattle.history.specs.Histories.{VerdictList}
use Rattle.history.proofs.Kept.{same_by}
use Rattle.history.proofs.StepAnswers.{free_verdicts, keeper_step, keepers_own, memory_own, memory_step, verdicts_step}
use Rattle.queue.proofs.archive.Archive.verdicts.Goals as goal

pub returns-in_err-judged-clause-step : goal.returns-in_err-judged-clause-step
returns-in_err-judged-clause-step g c h kept faithful clean =
    let p = err_from_is_err_and c.from_residual.result c.from_residual.ensures.1 in
    rw p.1 (keeper_step g.K.Keeper.may_fail h VerdictList c.in_err-judged.field-0.0 p.0 _ _ _ _ p.2 kept
    (same_by c.in_err-judged.ensures.reads.lasts clean c.in_err-judged.ensures.reads.same) c.in_err-judged.ensures.cause (free_verdicts h))

pub returns-in_err-verdict_lines-clause-step : goal.returns-in_err-verdict_lines-clause-step
returns-in_err-verdict_lines-clause-step g c h kept faithful clean =
    let p = err_from_is_err_and c.from_residual-in_err-verdict_lines.result c.from_residual-in_err-verdict_lines.ensures.1 in
    rw p.1 (memory_step g.K.Keeper.may_fail h VerdictList p.0 _ _ _ _ p.2 kept
    (same_by c.in_ok-judged.ensures.reads.lasts clean c.in_ok-judged.ensures.reads.same))

pub returns-clause-step : goal.returns-clause-step
returns-clause-step g c h kept faithful clean =
    let up = c.in_ok-judged.ensures.served clean in
    verdicts_step g.K.Keeper.may_fail h _ _ _ c.in_ok-judged.judged.items _ (kept.stands (c.in_ok-judged.ensures.reads.lasts.was_open clean up)) (c.in_ok-judged.ensures.verdicts clean)
    (c.in_ok-verdict_lines.ensures ∙ ap (map report_line) c.deref.ensures.value)
    (c.in_ok-judged.ensures.reads.same clean up)

pub returns-in_err-judged-clause-refused : goal.returns-in_err-judged-clause-refused
returns-in_err-judged-clause-refused g c =
    let p = err_from_is_err_and c.from_residual.result c.from_residual.ensures.1 in
    rw p.1 (keepers_own g.K.Keeper.may_fail ⊤ c.in_err-judged.field-0.0 p.0 p.2 c.in_err-judged.ensures.cause tt)

pub returns-in_err-verdict_lines-clause-refused : goal.returns-in_err-verdict_lines-clause-refused
returns-in_err-verdict_lines-clause-refused g c =
    let p = err_from_is_err_and c.from_residual-in_err-verdict_lines.result c.from_residual-in_err-verdict_lines.ensures.1 in
    rw p.1 (memory_own g.K.Keeper.may_fail ⊤ p.0 p.2)

pub returns-in_err-judged-clause-reads : goal.returns-in_err-judged-clause-reads
returns-in_err-judged-clause-reads g c = c.in_err-judged.ensures.reads

pub returns-in_err-verdict_lines-clause-reads : goal.returns-in_err-verdict_lines-clause-reads
returns-in_err-verdict_lines-clause-reads g c = c.in_ok-judged.ensures.reads

pub returns-clause-reads : goal.returns-clause-reads
returns-clause-reads g c = c.in_ok-judged.ensures.reads
