use Rattle.std.proofs.Common.{◌≡◌, map, take}
use Rattle.indices.specs.Places.{place_entry}
use Rattle.tables_matching.specs.Rows.{text_in}
use Rattle.tables_audit.proofs.text_rows.placed_entries.Given as goal

-- the indices of the places so far
abbrev pub invariant-loop-place : goal.invariant-loop-place
invariant-loop-place l = map text_in l.entries.items ≡ map (place_entry l.shelves l.position) (take l.place-index l.places)
