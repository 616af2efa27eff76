use Rattle.std.proofs.Common.{◌≡◌, map, drop}
use Rattle.indices.specs.Indices.{text_at}
use Rattle.indices.specs.Places.{place_entry}
use Rattle.texts.proofs.index.text_among.Given as goal

abbrev pub invariant-loop-place : goal.invariant-loop-place
invariant-loop-place l =
    text_at l.path (map (place_entry l.shelves l.suite) (drop l.place-index l.places))
    ≡ text_at l.path (map (place_entry l.shelves l.suite) l.places)
