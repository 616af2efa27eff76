use Rattle.std.proofs.Common.{◌≡◌, ℕ, refl, ap, sym, ◌∙◌, List, ◌++◌, append_assoc}
use Rattle.std.specs.Prelude.{codes, decimal}
use Rattle.std.proofs.lemmas.Result.{IfOk-weaker}
use Rattle.rules.specs.Verdicts.{number_of}
use Rattle.rules.specs.declared.verdict.Verdict.{Verdict}
use Rattle.rules.specs.declared.verdict.Verdict.TheVariants as verdict
use Rattle.history.specs.Answers.{line_on, report_line}
use Rattle.history.proofs.lines.report_line.Goals as goal

joined : (n : ℕ) (name : List ℕ) → codes "refused " ++ (decimal n ++ (codes " " ++ name)) ≡ codes "refused " ++ decimal n ++ codes " " ++ name
joined n name = sym (append_assoc (codes "refused " ++ decimal n) (codes " ") name ∙ append_assoc (codes "refused ") (decimal n) (codes " " ++ name))

refused_line : (v : Verdict) (name : List ℕ) → (v ≡ verdict.Accepted → ⊥) → codes "refused " ++ (decimal (number_of v) ++ (codes " " ++ name)) ≡ line_on v name
refused_line verdict.Accepted name not = absurd (not refl)
refused_line verdict.Unclaimed name not = joined (number_of verdict.Unclaimed) name
refused_line verdict.ForeignArchitecture name not = joined (number_of verdict.ForeignArchitecture) name
refused_line verdict.NotAllowed name not = joined (number_of verdict.NotAllowed) name
refused_line verdict.ForeignComponent name not = joined (number_of verdict.ForeignComponent) name
refused_line verdict.BadListing name not = joined (number_of verdict.BadListing) name
refused_line verdict.BadDsc name not = joined (number_of verdict.BadDsc) name
refused_line verdict.BadSidecar name not = joined (number_of verdict.BadSidecar) name
refused_line verdict.NotInPool name not = joined (number_of verdict.NotInPool) name
refused_line verdict.OtherContents name not = joined (number_of verdict.OtherContents) name

pub returns-in_default : goal.returns-in_default
unfolding report_line
returns-in_default c = IfOk-weaker c.format-in_default.result _ _
    (λ line is. is ∙ ap (λ n. codes "refused " ++ (decimal n ++ (codes " " ++ c.as_str-name.result.now))) c.number-number.ensures
    ∙ ap (λ name. codes "refused " ++ (decimal (number_of c.args.judgement.now.verdict) ++ (codes " " ++ name))) c.as_str-name.ensures
    ∙ refused_line c.args.judgement.now.verdict c.args.judgement.now.name c.in_default.not-Accepted) c.format-in_default.ensures.ok
