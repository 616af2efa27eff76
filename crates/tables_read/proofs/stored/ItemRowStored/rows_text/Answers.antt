use Rattle.tables_read.proofs.Meaning.{item_rows}
use Rattle.tables_read.proofs.stored.ItemRowStored.rows_text.Goals as goal

pub returns : goal.returns
returns c = item_rows
