use Rattle.reasons.proofs.Listings.{bad_listing}
use Rattle.reasons.proofs.laws.a_listing_is_named.Goals as goal

pub returns : goal.returns
returns c = bad_listing
