use Rattle.rules.specs.Judgement.{suite_of, claimant}
use Rattle.rules.proofs.JudgeLemmas.{rows_among-suites, IfOk-rewritten, IfErr-rewritten}
use Rattle.rules.proofs.judgement.judge.Goals as goal

pub returns-clause-accepted : goal.returns-clause-accepted
returns-clause-accepted c =
    IfOk-rewritten c.judge_among.result _ _ (rows_among-suites c.args.config.now c.args.changes.now _ c.suites.ensures) c.judge_among.ensures.accepted

pub returns-clause-place : goal.returns-clause-place
unfolding suite_of claimant
returns-clause-place c = rw c.suites.ensures at c.judge_among.ensures.place

pub returns-clause-refused : goal.returns-clause-refused
returns-clause-refused c =
    IfErr-rewritten c.judge_among.result _ _ (rows_among-suites c.args.config.now c.args.changes.now _ c.suites.ensures) c.judge_among.ensures.refused
