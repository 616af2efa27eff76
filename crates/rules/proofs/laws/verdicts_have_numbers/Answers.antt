use Rattle.rules.proofs.VerdictNumbers.{numbered}
use Rattle.rules.proofs.laws.verdicts_have_numbers.Goals as goal

pub returns : goal.returns
returns c = numbered
