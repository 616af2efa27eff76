use Rattle.tables_meaning.proofs.BookFiles.{book_files, finished_files}
use Rattle.tables_meaning.proofs.laws.a_kept_book_has_its_files.Goals as goal

pub returns-clause-kept : goal.returns-clause-kept
returns-clause-kept c = book_files

pub returns-clause-finished : goal.returns-clause-finished
returns-clause-finished c = finished_files
