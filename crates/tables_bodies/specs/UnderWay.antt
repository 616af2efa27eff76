-- A body that is under way: what was begun, beside the rows.
use Rattle.std.specs.Prelude.{ℕ, if◌then◌else◌, IsTrue, List, [], Option, Some, None}
use Rattle.sums.specs.Prints.{Holds}
use Rattle.tables.specs.Rows.{Tables}
use Rattle.tables_meaning.specs.Coming.{Comes, HasComing, bytes_so_far}
use Rattle.tables_bodies.specs.declared.coming.Begun.{Begun}

-- A body of these bytes was begun: it has this number and this many pieces, and while it is coming the printer has read the
-- bytes.
pub record IsBegun (t : Tables) (b : Begun) (bytes : List ℕ) : Type 0 where
  pub comes : Comes t b.body b.pieces bytes
  pub printer : IsTrue b.is_coming → Holds b.printer bytes

-- A body was begun, or none was and no row is one of a body that is not whole.
abbrev pub IsUnderWay : Tables → Option Begun → Type 0
IsUnderWay t None = HasComing t []
IsUnderWay t (Some b) = (bytes : List ℕ) × IsBegun t b bytes

-- the bytes so far of the body that is coming
abbrev pub coming_in : Tables → Option Begun → Option (List ℕ)
coming_in t None = None
coming_in t (Some b) = if b.is_coming then Some (bytes_so_far t b.body) else None
