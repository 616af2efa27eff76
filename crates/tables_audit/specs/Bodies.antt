-- What makes one body whole, what the pieces of one that is not are like, and in which order pieces, arrivals and files are looked up.
use Rattle.std.specs.Prelude.{◌≡◌, ◌<◌, ◌≤◌, ℕ, ◌+◌, ◌-◌, ◌/◌, min, List, ◌++◌, map, length, None, Some, IsTrue}
use Rattle.std.specs.List.{flat_map}
use Rattle.std.specs.List.Sorted.{IsNonDecreasing, IsNonDecreasingBy, IsPermutation}
use Rattle.sums.specs.Prints.{print as print_of}
use Rattle.sums.specs.declared.print.Print.{Print}
use Rattle.tables.specs.Rows.{Numbered, Tables, rows_of}
use Rattle.tables.specs.declared.rows.ArrivalRow.{ArrivalRow}
use Rattle.tables.specs.declared.rows.BodyRow.{BodyRow}
use Rattle.tables.specs.declared.rows.File.{File}
use Rattle.tables.specs.declared.rows.Piece.{Piece}
use Rattle.tables_meaning.specs.Kept.{bytes_of, is_used, piece_size, pieces_for, pieces_of}

-- The pieces stand by body, in rising order of the bodies' numbers.
abbrev pub AreByBody : Numbered Piece → Type 0
AreByBody = IsNonDecreasingBy (λ x. x.1.body)

-- The numbers are those of the bodies of arrivals and of files, in rising order.
pub record AreUsed (arrivals : Numbered ArrivalRow) (files : Numbered File) (numbers : List ℕ) : Type 0 where
  pub rise : IsNonDecreasing numbers
  pub are : IsPermutation (map (λ a. a.body) (rows_of arrivals) ++ map (λ f. f.body) (rows_of files)) numbers

-- the bytes of these pieces, one after another
abbrev pub bytes_in : List Piece → List ℕ
bytes_in ps = flat_map (λ p. p.bytes) ps

-- The piece is the next one of a body of `whole` bytes, after the first `size` of them: as long as a piece may be, and the
-- last of what is left.
pub record IsNext (size whole : ℕ) (p : Piece) : Type 0 where
  pub some : size < whole
  pub number : p.number ≡ size / piece_size + 1
  pub long : length p.bytes ≡ min (whole - size) piece_size

-- These are the pieces of a body, cut from their bytes, and this is the print of these bytes.
pub record ArePieces (id : ℕ) (print : Print) (ps : List Piece) : Type 0 where
  pub printed : print ≡ print_of (bytes_in ps)
  pub pieces : ps ≡ pieces_for id (bytes_in ps)

-- The body of this row is whole, in pieces, with the print of its bytes, and has arrived under some name or is that of a file.
pub record IsBodyFit (t : Tables) (x : ℕ × BodyRow) : Type 0 where
  pub whole : x.1.print ≡ Some (print_of (bytes_of t x.0))
  pub pieces : pieces_of t x.0 ≡ pieces_for x.0 (bytes_of t x.0)
  pub used : IsTrue (is_used t x.0)

-- The piece may be the next one of a body, after `count` full ones.
pub record IsBehind (count : ℕ) (p : Piece) : Type 0 where
  pub number : p.number ≡ count + 1
  pub some : 0 < length p.bytes
  pub small : length p.bytes ≤ piece_size

-- these are the pieces of a body, cut from their bytes
abbrev pub AreInPieces : ℕ → List Piece → Type 0
AreInPieces id ps = ps ≡ pieces_for id (bytes_in ps)

-- if the body of this row is not whole, its pieces are as those of a whole one
abbrev pub IsInPieces : Tables → ℕ × BodyRow → Type 0
IsInPieces t x = x.1.print ≡ None → pieces_of t x.0 ≡ pieces_for x.0 (bytes_of t x.0)
