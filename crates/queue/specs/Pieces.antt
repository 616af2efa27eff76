-- A file of the pool that is read piece by piece.
use Rattle.std.specs.Prelude.{◌≡◌, ◌*◌, ◌-◌, ◌&&◌, ℕ, Bool, List, Some, length, min, nat_eq}
use Rattle.std.specs.Option.{option_map}
use Rattle.book.specs.Pieces.{PieceValue, piece_of_body}
use Rattle.book.specs.declared.keeper.Keeper.{Ghosts}

-- The piece says that its file has this size, and is as long as the piece at this place of such a file.
abbrev pub is_piece_at : (size number : ℕ) → PieceValue → Bool
is_piece_at size number piece = nat_eq piece.size size && nat_eq (length piece.bytes) (min (size - 65536 * number) 65536)

-- A keeper whose store returns what was written to it is open, and this is the first piece of the file of the pool at the path.
abbrev pub HasFirst : {K : Type 0} (g : Ghosts K) (k : K) (path : List ℕ) (first : PieceValue) → Type 0
HasFirst g k path first = g.is_clean k → g.is_open k × (option_map (piece_of_body 0) ((g.book k).files path) ≡ Some first)
