use Rattle.std.proofs.Common.{ap, ◌∙◌}
use Rattle.std.specs.Fmt.{styled_decimal}
use Rattle.std.proofs.lemmas.Result.{IfOk-weaker}
use Rattle.exported.proofs.manifest.nanos_text.Goals as goal

pub returns : goal.returns
returns c = IfOk-weaker c.format.result _ _ (λ _ e. e ∙ ap (λ l. styled_decimal l c.args.nanos) c.laid_out.ensures) c.format.ensures.ok
