use Rattle.std.proofs.Common.{◌++◌, codes, ◌∙◌}
use Rattle.std.proofs.lemmas.Result.{IfOk-weaker}
use Rattle.output.proofs.explaining.names.lack_line.Goals as goal

pub returns : goal.returns
returns c =
    rw c.in-Some.is
    (IfOk-weaker c.format.result _ _
    (λ line is. is
    ∙ (λ i. codes "lists " ++ (c.as_str-file.ensures i ++ (codes " as " ++ (c.in_ok-listed.ensures i ++ (codes ", not " ++ c.in_ok-wanted.ensures i))))))
    c.format.ensures.ok)
