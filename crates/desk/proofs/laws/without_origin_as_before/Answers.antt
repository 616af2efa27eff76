use Rattle.desk.proofs.OriginLemmas.{as_before}
use Rattle.desk.proofs.laws.without_origin_as_before.Goals as goal

pub returns : goal.returns
returns c key method target fields none = as_before key method target fields none
