use Rattle.tables_read.proofs.Meaning.{body_rows}
use Rattle.tables_read.proofs.stored.BodyRowStored.rows_text.Goals as goal

pub returns : goal.returns
returns c = body_rows
