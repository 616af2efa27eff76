use Rattle.tables_meaning.proofs.BookFiles.{one_kept}
use Rattle.tables_meaning.proofs.laws.a_database_keeps_one_book.Goals as goal

pub returns : goal.returns
returns c = one_kept
