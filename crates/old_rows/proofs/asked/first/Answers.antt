use Rattle.old_rows.proofs.TextLemmas.{first_selects}
use Rattle.old_rows.proofs.asked.first.Goals as goal

pub returns-clause-selects : goal.returns-clause-selects
returns-clause-selects c = first_selects
