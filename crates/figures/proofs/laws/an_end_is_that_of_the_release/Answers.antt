use Rattle.figures.proofs.Ends.{end_of_release}
use Rattle.figures.proofs.laws.an_end_is_that_of_the_release.Goals as goal

pub returns : goal.returns
returns c = end_of_release
