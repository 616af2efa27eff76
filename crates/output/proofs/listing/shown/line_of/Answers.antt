use Rattle.std.proofs.Common.{◌∙◌}
use Rattle.std.proofs.lemmas.Result.{IfOk-weaker}
use Rattle.output.specs.Listing.{before}
use Rattle.output.proofs.listing.shown.line_of.Goals as goal

pub returns : goal.returns
returns c =
    IfOk-weaker c.format.result _ _
    (λ line is. is
    ∙ (λ i. before (c.as_str-package.ensures i) (before (c.text-version.ensures.text i) (before (c.as_str-architecture.ensures i) (before (c.as_str-component.ensures i) (c.as_str-source.ensures i))))))
    c.format.ensures.ok
