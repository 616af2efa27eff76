use Rattle.history.proofs.ForGood.{all_count, none_ends, stays_whole}
use Rattle.history.proofs.laws.for_good.Goals as goal

pub returns-clause-counts : goal.returns-clause-counts
returns-clause-counts c = all_count

pub returns-clause-nothing : goal.returns-clause-nothing
returns-clause-nothing c = none_ends

pub returns-clause-same : goal.returns-clause-same
returns-clause-same c = stays_whole
