use Rattle.std.proofs.Common.{map, ap, ◌∙◌}
use Rattle.std.specs.String.{string_bytes}
use Rattle.std.proofs.lemmas.Result.{IfOk-weaker}
use Rattle.history.proofs.promotion.all_sources.Goals as goal

pub returns : goal.returns
returns c = IfOk-weaker c.listed.result _ _ (λ list is. ap (map string_bytes) is ∙ c.in_ok-shown.ensures) c.listed.ensures
