use Rattle.std.proofs.Common.{◌≡◌, map, drop}
use Rattle.tables_audit.specs.Places.{first_at, placed_view}
use Rattle.tables_audit.proofs.uploads.places.first_at.Given as goal

-- what has not been looked at decides
abbrev pub invariant-loop-one : goal.invariant-loop-one
invariant-loop-one l = first_at (map placed_view (drop l.one-index l.placed)) l.place ≡ first_at (map placed_view l.placed) l.place
