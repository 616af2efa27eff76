use Rattle.std.proofs.Common.{◌≡◌, map, take}
use Rattle.indices.specs.Places.{place_entry}
use Rattle.indices.specs.Release.{index_of}
use Rattle.texts.proofs.index.indices_for.Given as goal

abbrev pub invariant-loop-place : goal.invariant-loop-place
invariant-loop-place l = l.indices.items ≡ map (λ p. index_of (place_entry l.shelves l.suite p)) (take l.place-index l.places)
