-- What the statements on pieces speak of.
use Rattle.std.specs.Prelude.{ℕ, Bool, ◌&&◌, nat_eq}
use Rattle.tables.specs.Rows.{Tables, without}
use Rattle.tables.specs.declared.rows.Piece.{Piece}

-- the piece is one of this body
abbrev pub is_of : ℕ → Piece → Bool
is_of body x = nat_eq x.body body

-- the piece is that of this body at this place, from 1
abbrev pub is_piece : ℕ → ℕ → Piece → Bool
is_piece body number x = nat_eq x.body body && nat_eq x.number number

-- the pieces of this body are gone
abbrev pub without_pieces : ℕ → Tables → Tables
without_pieces body t = record t { pieces = without (λ x. is_of body x.1) t.pieces }

-- the piece of this body at this place is gone
abbrev pub without_piece : ℕ → ℕ → Tables → Tables
without_piece body number t = record t { pieces = without (λ x. is_piece body number x.1) t.pieces }
