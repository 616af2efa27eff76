-- What counts at a moment, of the rows of an archive.
use Rattle.std.specs.Prelude.{ℕ, Bool, true, false, ◌&&◌, List, Option, None, Some}
use Rattle.std.specs.Option.{option_map_or}
use Rattle.sums.specs.declared.print.Print.{Print}
use Rattle.tables.specs.Bodies.{body_with}
use Rattle.tables.specs.Rows.{Tables}
use Rattle.tables.specs.declared.rows.Want.{Want}
use Rattle.tables_bodies.specs.Counting.{arrival_counts}

-- a body of this print is there, and its arrival under this name counts
unfoldable pub found_current : Option ℕ → ℕ → Tables → List ℕ → Print → Bool
found_current span moment t name print = option_map_or (λ body. arrival_counts span moment name body t) (body_with print t.bodies) false

-- What has arrived under this name with this print still counts. If there is no span it counts for good.
abbrev pub still_counts : Option ℕ → ℕ → Tables → List ℕ → Print → Bool
still_counts None moment t name print = true
still_counts (Some seconds) moment t name print = found_current (Some seconds) moment t name print

-- the entry has arrived and still counts
abbrev pub is_had : Option ℕ → ℕ → Tables → Want → Bool
is_had span moment t w = w.here && still_counts span moment t w.name w.print
