use Rattle.tables_read.proofs.Meaning.{date_rows}
use Rattle.tables_read.proofs.stored.DateStored.rows_text.Goals as goal

pub returns : goal.returns
returns c = date_rows
