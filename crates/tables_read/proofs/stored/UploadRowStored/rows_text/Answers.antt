use Rattle.tables_read.proofs.Meaning.{upload_rows}
use Rattle.tables_read.proofs.stored.UploadRowStored.rows_text.Goals as goal

pub returns : goal.returns
returns c = upload_rows
