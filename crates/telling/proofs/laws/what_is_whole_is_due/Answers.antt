use Rattle.telling.proofs.WholeLemmas.{whole_due}
use Rattle.telling.proofs.laws.what_is_whole_is_due.Goals as goal

pub returns : goal.returns
returns c = whole_due
