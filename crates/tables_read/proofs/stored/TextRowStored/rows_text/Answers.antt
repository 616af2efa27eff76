use Rattle.tables_read.proofs.Meaning.{text_rows}
use Rattle.tables_read.proofs.stored.TextRowStored.rows_text.Goals as goal

pub returns : goal.returns
returns c = text_rows
