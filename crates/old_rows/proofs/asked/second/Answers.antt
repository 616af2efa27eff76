use Rattle.old_rows.proofs.TextLemmas.{second_selects}
use Rattle.old_rows.proofs.asked.second.Goals as goal

pub returns-clause-selects : goal.returns-clause-selects
returns-clause-selects c = second_selects
