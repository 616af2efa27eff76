use Rattle.sums.proofs.ListedRead.{listed_once}
use Rattle.sums.proofs.laws.one_reading.Goals as goal

pub returns : goal.returns
returns c = listed_once
