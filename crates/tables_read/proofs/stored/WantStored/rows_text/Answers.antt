use Rattle.tables_read.proofs.Meaning.{want_rows}
use Rattle.tables_read.proofs.stored.WantStored.rows_text.Goals as goal

pub returns : goal.returns
returns c = want_rows
