use Rattle.history.proofs.Openings.{fresh_opening}
use Rattle.history.proofs.laws.nothing_is_an_opening.Goals as goal

pub returns : goal.returns
returns c = fresh_opening
