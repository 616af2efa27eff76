-- A file of the pool, piece by piece.
use Rattle.std.specs.Prelude.{ℕ, ◌*◌, List, drop, length, take}
use Rattle.book.specs.declared.piece.FilePiece.{FilePiece}

-- a piece of a file as contracts see it: how many bytes the whole file has, and the bytes of the piece
pub record PieceValue : Type 0 where
  pub size : ℕ
  pub bytes : List ℕ

abbrev pub piece_value : FilePiece → PieceValue
piece_value piece = record { size = piece.size; bytes = piece.bytes.items }

-- the piece of a body at a place, from 0; each piece but the last has 65536 bytes
abbrev pub piece_of_body : ℕ → List ℕ → PieceValue
piece_of_body number body = record { size = length body; bytes = take 65536 (drop (65536 * number) body) }
