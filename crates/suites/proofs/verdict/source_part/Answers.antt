use Rattle.std.proofs.Common.{◌∙◌, ap, sym}
use Rattle.suites.specs.Verdict.{differs_from_dsc}
use Rattle.suites.proofs.Refusals.{good_part}
use Rattle.suites.proofs.verdict.source_part.Goals as goal

pub returns : goal.returns
returns c =
    good_part c.args.most c.args.changes.now c.args.part c.in-Some.dsc (sym c.in_ok-dsc.ensures ∙ c.in-Some.is)
    (ap (λ name. differs_from_dsc c.args.changes.now name c.in-Some.dsc) (sym c.as_str.ensures) ∙ sym c.in_ok-differs_from_dsc.ensures ∙ c.if-branch.false)
