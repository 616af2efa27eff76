use Rattle.tables_read.proofs.Meaning.{arrival_rows}
use Rattle.tables_read.proofs.stored.ArrivalRowStored.rows_text.Goals as goal

pub returns : goal.returns
returns c = arrival_rows
