use Rattle.tables_audit.proofs.WholeLemmas.{at_some}
use Rattle.keep_tables.proofs.reads.show.Goals as goal

pub returns-in_ok-read_nothing-in-Some-clause-shown : goal.returns-in_ok-read_nothing-in-Some-clause-shown
returns-in_ok-read_nothing-in-Some-clause-shown g c clean judged shown dates keeps here = at_some _ _ c.in-Some.shelves c.in-Some.is here

pub returns-in-None-clause-shown : goal.returns-in-None-clause-shown
returns-in-None-clause-shown g c clean judged shown dates keeps here = c.read_shown.ensures.shown clean judged shown dates keeps
