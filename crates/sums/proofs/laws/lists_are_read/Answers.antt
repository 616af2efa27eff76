use Rattle.sums.proofs.ListedRead.{listed_of_read, read_of_listed}
use Rattle.sums.proofs.laws.lists_are_read.Goals as goal

pub returns : goal.returns
returns c = λ most kind p es. (listed_of_read most kind p es, read_of_listed most kind p es)
