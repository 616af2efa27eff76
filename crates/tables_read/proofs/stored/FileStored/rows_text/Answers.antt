use Rattle.tables_read.proofs.Meaning.{file_rows}
use Rattle.tables_read.proofs.stored.FileStored.rows_text.Goals as goal

pub returns : goal.returns
returns c = file_rows
