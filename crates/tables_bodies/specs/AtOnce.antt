-- A body of one piece: it comes and arrives in one transaction.
use Rattle.std.specs.Prelude.{◌≡◌, ◌<◌, ◌≤◌, ℕ, Bool, not, List, length, Option, Some, None}
use Rattle.sums.specs.declared.print.Print.{Print}
use Rattle.tables.specs.Bodies.{body_with}
use Rattle.tables.specs.Rows.{Tables, next_in, with_body, with_piece}
use Rattle.tables_meaning.specs.Coming.{bytes_at}
use Rattle.tables_meaning.specs.Making.{number_with, with_bytes, with_delivered}
use Rattle.tables_meaning.specs.Taking.{listed_in}
use Rattle.tables_bodies.specs.Counting.{arrival_counts}

-- these bytes fit one piece: there is at least one byte, and there are at most 65,536
abbrev pub FitsOnePiece : List ℕ → Type 0
FitsOnePiece bytes = (0 < length bytes) × (length bytes ≤ 65536)

-- one more whole body, and its one piece
abbrev pub with_one_piece : Print → List ℕ → Tables → Tables
with_one_piece print bytes t = with_piece (record { body = next_in t.bodies; number = 1; bytes = bytes }) (with_body (record { print = Some print }) t)

-- the file has come, and has arrived under its name
abbrev pub with_delivery_at_once : List ℕ → List ℕ → Print → ℕ → Tables → Tables
with_delivery_at_once name bytes print moment t = with_delivered name print bytes moment (listed_in name bytes) t

-- The body of this number is one piece, of these bytes.
pub record IsOnePiece (t : Tables) (body : ℕ) (bytes : List ℕ) : Type 0 where
  pub first : bytes_at t body 1 ≡ Some bytes
  pub last : bytes_at t body 2 ≡ None

-- A body of this print that is stored is one piece, of these bytes.
abbrev pub HasNoOtherPiece : Print → List ℕ → Tables → Type 0
HasNoOtherPiece print bytes t = (found : ℕ) → body_with print t.bodies ≡ Some found → IsOnePiece t found bytes

-- whether its arrival is new at the moment, with the seconds for which arrivals count, or none if they count for good
abbrev pub is_new_at_once : List ℕ → List ℕ → Print → Option ℕ → ℕ → Tables → Bool
is_new_at_once name bytes print span moment t =
    let stored = with_bytes print bytes t in
    not (arrival_counts span moment name (number_with print stored) stored)
