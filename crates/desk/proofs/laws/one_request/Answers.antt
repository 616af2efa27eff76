use Rattle.desk.proofs.UniqueLemmas.{one_request}
use Rattle.desk.proofs.laws.one_request.Goals as goal

pub returns : goal.returns
returns c = one_request
