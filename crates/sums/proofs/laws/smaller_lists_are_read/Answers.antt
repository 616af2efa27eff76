use Rattle.sums.proofs.ListedRead.{read_more}
use Rattle.sums.proofs.laws.smaller_lists_are_read.Goals as goal

pub returns : goal.returns
returns c = read_more
