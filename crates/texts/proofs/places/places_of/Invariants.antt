use Rattle.std.proofs.Common.{◌≡◌, map, take}
use Rattle.std.specs.List.{flat_map}
use Rattle.indices.specs.Places.{place_at}
use Rattle.texts.proofs.places.places_of.Given as goal

abbrev pub invariant-loop-component : goal.invariant-loop-component
invariant-loop-component l = l.places.items ≡ flat_map (λ c. map (place_at c) l.architectures) (take l.component-index l.components)
