-- A body that is coming: its rows after those of the whole ones, and what becomes of them.
use Rattle.std.specs.Prelude.{◌≡◌, ◌<◌, ◌+◌, ℕ, if◌then◌else◌, List, [], ◌∷◌, find, Option, Some, None, is_some, option_map, unwrap_or}
use Rattle.std.specs.Option.{option_map_or}
use Rattle.sums.specs.declared.entries.Entry.{Entry}
use Rattle.sums.specs.declared.print.Print.{Print}
use Rattle.tables.specs.Bodies.{body_with, with_print}
use Rattle.tables.specs.Pieces.{is_piece}
use Rattle.tables.specs.Rows.{Tables, next_in, rows_of, with_body, with_piece}
use Rattle.tables.specs.Wants.{with_here}
use Rattle.tables.specs.declared.rows.Piece.{Piece}
use Rattle.tables_meaning.specs.Finished.{finished, without_whole}
use Rattle.tables_meaning.specs.Kept.{bytes_of, piece_count, pieces_for}
use Rattle.tables_meaning.specs.Making.{with_arrived, with_bytes, with_pieces, with_requested}
use Rattle.tables_meaning.specs.Taking.{listed_in}

-- ---- its rows

-- a row without a print, and the pieces of these bytes
abbrev pub with_begun : List ℕ → Tables → Tables
with_begun bytes t = with_pieces (pieces_for (next_in t.bodies) bytes) (with_body (record { print = None }) t)

-- The rows of the body that is coming, after those of the whole ones. It has no row while it has no byte.
unfoldable pub with_coming : List ℕ → Tables → Tables
with_coming [] t = t
with_coming (b ∷ bytes) t = with_begun (b ∷ bytes) t

-- the number of the body that is coming, or none while it has no byte
unfoldable pub coming_number : List ℕ → Tables → Option ℕ
coming_number [] t = None
coming_number (b ∷ bytes) t = Some (next_in t.bodies)

-- The rows are the finished ones with such a body of these bytes.
pub record HasComing (t : Tables) (bytes : List ℕ) : Type 0 where
  pub rows : t ≡ with_coming bytes (finished t)

-- A body of these bytes is coming, under this number and in this number of pieces.
pub record Comes (t : Tables) (body : Option ℕ) (pieces : ℕ) (bytes : List ℕ) : Type 0 where
  pub coming : HasComing t bytes
  pub number : body ≡ coming_number bytes (finished t)
  pub count : pieces ≡ piece_count bytes

-- the bytes of the body of this number, or no bytes if there is no number
abbrev pub bytes_so_far : Tables → Option ℕ → List ℕ
bytes_so_far t body = option_map_or (bytes_of t) body []

-- ---- what becomes of it

-- the next piece of the body that is coming, under this number; with the first piece comes the row of the body
unfoldable pub with_next_piece : Option ℕ → ℕ → List ℕ → Tables → Tables
with_next_piece (Some id) number bytes t = with_piece (record { body = id; number = number; bytes = bytes }) t
with_next_piece None number bytes t = with_piece (record { body = next_in t.bodies; number = number; bytes = bytes }) (with_body (record { print = None }) t)

-- the body of this number gets this print; without a number it is a new one, of no bytes
unfoldable pub with_new_print : Option ℕ → Print → Tables → Tables
with_new_print (Some id) print t = with_print id print t
with_new_print None print t = with_body (record { print = Some print }) t

-- the body of this number is whole: it gets its print, or it goes if a body of that print is there already
unfoldable pub with_whole : ℕ → Print → Tables → Tables
with_whole id print t = if is_some (body_with print t.bodies) then without_whole id t else with_print id print t

-- a body that came is whole, as in `with_whole`; one that has no row is stored as a body of no bytes
unfoldable pub with_ended : Option ℕ → Print → Tables → Tables
with_ended (Some id) print t = with_whole id print t
with_ended None print t = with_bytes print [] t

-- the number that the body of this print has after `with_ended`
unfoldable pub ended_number : Option ℕ → Print → Tables → ℕ
ended_number body print t = unwrap_or (body_with print t.bodies) (unwrap_or body (next_in t.bodies))

-- the file has arrived, whose body is stored, and what it lists is wanted
unfoldable pub with_received : List ℕ → ℕ → Print → ℕ → Option (List Entry) → Tables → Tables
with_received name body print moment listed t =
    let marked = with_here name print (with_arrived name body moment t) in
    option_map_or (λ entries. with_requested name print entries marked) listed marked

-- the body that came is whole and has arrived under a name, and what its bytes list is wanted
unfoldable pub with_finished : List ℕ → Option ℕ → Print → ℕ → Tables → Tables
with_finished name body print moment t =
    with_received name (ended_number body print t) print moment (listed_in name (bytes_so_far t body)) (with_ended body print t)

-- ---- two bodies of one print

-- the bytes of a piece, by its body and its number
abbrev pub bytes_at : Tables → ℕ → ℕ → Option (List ℕ)
bytes_at t body number = option_map (λ (p : Piece). p.bytes) (find (is_piece body number) (rows_of t.pieces))

-- the two bodies have the same pieces at the places from 1 to this number, and at the place after them
abbrev pub HasSamePieces : Tables → ℕ → ℕ → ℕ → Type 0
HasSamePieces t body other count = (n : ℕ) → n < count + 1 → bytes_at t body (n + 1) ≡ bytes_at t other (n + 1)

-- the body that was found has the pieces of the one that came
abbrev pub IsSameAs : Option ℕ → ℕ → ℕ → Tables → Type 0
IsSameAs (Some body) count found t = HasSamePieces t body found count
IsSameAs None count found t = bytes_at t found 1 ≡ None

-- A body of this print that is stored has the pieces of the one that came.
abbrev pub IsNoOther : Option ℕ → ℕ → Print → Tables → Type 0
IsNoOther body count print t = (found : ℕ) → body_with print t.bodies ≡ Some found → IsSameAs body count found t
