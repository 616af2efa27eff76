use Rattle.std.proofs.Common.{refl, ap, ◌∙◌}
use Rattle.output.proofs.NameLemmas.{without_is}
use Rattle.output.proofs.explaining.names.without.Goals as goal

pub returns : goal.returns
returns c = ap (λ t. t.now) c.unwrap_or.ensures ∙ without_is c.args.ending.now c.args.name.now c.strip_suffix.result c.args.name refl c.strip_suffix.ensures.cases
