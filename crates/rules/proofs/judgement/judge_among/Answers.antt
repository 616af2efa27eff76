use Rattle.std.proofs.Common.{ap, ◌∙◌}
use Rattle.rules.specs.Suites.{keeps_component}
use Rattle.rules.specs.declared.suite.Suite.{Suite}
use Rattle.rules.proofs.JudgeLemmas.{keeps_component-accepted, IfErr-never}
use Rattle.rules.proofs.judgement.judge_among.Goals as goal

pub returns-in-Accepted-clause-refused : goal.returns-in-Accepted-clause-refused
returns-in-Accepted-clause-refused g c =
    let suite : Suite = g.S.Judging.as_suite c.in-Some.claiming.now in
    IfErr-never c.place_in.result _ _ c.place_in.ensures.none
    (ap (keeps_component suite) c.in_component.ensures ∙ keeps_component-accepted suite (g.U.Judged.as_changes c.args.upload.now) c.in-Accepted.ensures)
