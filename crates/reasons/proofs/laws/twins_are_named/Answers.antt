use Rattle.reasons.proofs.Listings.{two_alike}
use Rattle.reasons.proofs.laws.twins_are_named.Goals as goal

pub returns : goal.returns
returns c = two_alike
