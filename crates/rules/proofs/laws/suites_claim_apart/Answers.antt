use Rattle.rules.proofs.Apart.{claim_apart}
use Rattle.rules.proofs.laws.suites_claim_apart.Goals as goal

pub returns : goal.returns
returns c = claim_apart
