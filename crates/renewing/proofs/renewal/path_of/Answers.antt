use Rattle.std.proofs.Common.{ap, ◌∙◌}
use Rattle.std.proofs.lemmas.Result.{IfOk-weaker}
use Rattle.indices.specs.Indices.{path_in}
use Rattle.renewing.proofs.renewal.path_of.Goals as goal

pub returns : goal.returns
returns c = IfOk-weaker c.path_in.result _ _ (λ whole is. is ∙ ap (λ codename. path_in codename c.args.path.now) c.as_str.ensures) c.path_in.ensures
