use Rattle.tables_read.specs.All.{tables_with}
use Rattle.old_book.proofs.RisingLemmas.{rising_if}
use Rattle.old_book.proofs.old.OldBook.rows.Goals as goal

pub returns-clause-rising : goal.returns-clause-rising
returns-clause-rising c = rising_if (tables_with c.args.self.now.rows) c.args.self.now.rising
