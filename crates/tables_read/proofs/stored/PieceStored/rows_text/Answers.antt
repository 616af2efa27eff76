use Rattle.tables_read.proofs.Meaning.{piece_rows}
use Rattle.tables_read.proofs.stored.PieceStored.rows_text.Goals as goal

pub returns : goal.returns
returns c = piece_rows
