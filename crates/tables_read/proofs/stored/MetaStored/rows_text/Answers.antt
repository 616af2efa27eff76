use Rattle.tables_read.proofs.Meaning.{meta_rows}
use Rattle.tables_read.proofs.stored.MetaStored.rows_text.Goals as goal

pub returns : goal.returns
returns c = meta_rows
