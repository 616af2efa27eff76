use Rattle.tables_read.proofs.Meaning.{ref_rows}
use Rattle.tables_read.proofs.stored.RefStored.rows_text.Goals as goal

pub returns : goal.returns
returns c = ref_rows
