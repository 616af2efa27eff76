use Rattle.desk.proofs.OriginLemmas.{nothing_changes}
use Rattle.desk.proofs.laws.with_origin_nothing_changes.Goals as goal

pub returns : goal.returns
returns c key method target fields want one is = nothing_changes key method target fields want one is
