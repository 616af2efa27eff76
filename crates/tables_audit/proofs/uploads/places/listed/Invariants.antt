use Rattle.std.proofs.Common.{map, take}
use Rattle.tables_audit.specs.Places.{ArePlaced, placed_view}
use Rattle.tables_audit.proofs.uploads.places.listed.Given as goal

-- the uploads so far
abbrev pub invariant-loop-upload : goal.invariant-loop-upload
invariant-loop-upload l = ArePlaced (take l.upload-index l.uploads) (map placed_view l.placed.items)
