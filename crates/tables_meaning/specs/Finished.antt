-- The bodies that are not whole, and the rows without them.
use Rattle.std.specs.Prelude.{◌≡◌, ℕ, Bool, not, ◌&&◌, List, fold, All, None, is_some}
use Rattle.std.specs.List.{list_any}
use Rattle.tables.specs.Bodies.{without_body}
use Rattle.tables.specs.Pieces.{is_of, without_pieces}
use Rattle.tables.specs.Rows.{Tables, without}
use Rattle.tables.specs.declared.rows.BodyRow.{BodyRow}
use Rattle.tables.specs.declared.rows.Piece.{Piece}
use Rattle.tables_meaning.specs.Kept.{bytes_of, pieces_for, pieces_of}

-- the body has no print
abbrev pub is_unfinished : ℕ × BodyRow → Bool
is_unfinished x = not (is_some x.1.print)

-- the piece is one of a body that has no print
abbrev pub is_of_unfinished : Tables → Piece → Bool
is_of_unfinished t p = list_any (λ x. is_of x.0 p && is_unfinished x) t.bodies

-- the tables without the bodies that have no print, and without their pieces
unfoldable pub finished : Tables → Tables
finished t = record t { bodies = without is_unfinished t.bodies; pieces = without (λ p. is_of_unfinished t p.1) t.pieces }

-- the body of this number and its pieces are gone
abbrev pub without_whole : ℕ → Tables → Tables
without_whole id t = without_body id (without_pieces id t)

-- the bodies of these numbers and their pieces are gone
abbrev pub without_all : List ℕ → Tables → Tables
without_all ids t = fold (λ now id. without_whole id now) t ids

-- The pieces of each body that is not whole are as those of a whole one: numbered from 1, each of as many bytes as a piece may
-- have, and the last of the bytes that are left.
pub record AreUnderWay (t : Tables) : Type 0 where
  pub pieces : All (λ x. x.1.print ≡ None → pieces_of t x.0 ≡ pieces_for x.0 (bytes_of t x.0)) t.bodies
