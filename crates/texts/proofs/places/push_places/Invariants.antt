use Rattle.std.proofs.Common.{◌≡◌, ◌++◌, map, take}
use Rattle.indices.specs.Places.{place_at}
use Rattle.texts.proofs.places.push_places.Given as goal

abbrev pub invariant-loop-architecture : goal.invariant-loop-architecture
invariant-loop-architecture l = l.places.items ≡ l.fn.places.items ++ map (place_at l.component) (take l.architecture-index l.architectures)
