use Rattle.tables.proofs.BookLemmas.{held_tables}
use Rattle.tables.proofs.laws.held_tables.Goals as goal

pub returns : goal.returns
returns c = held_tables
