use Rattle.tables_meaning.proofs.FoundKept.{founded_is_kept, founded_book}
use Rattle.keep_tables.proofs.laws.first_rows.Goals as goal

pub returns-clause-kept : goal.returns-clause-kept
returns-clause-kept c = founded_is_kept

pub returns-clause-book : goal.returns-clause-book
returns-clause-book c = founded_book
