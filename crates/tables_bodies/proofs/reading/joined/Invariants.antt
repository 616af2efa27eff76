use Rattle.std.proofs.Common.{◌≡◌, take}
use Rattle.std.specs.List.{flat_map}
use Rattle.tables_bodies.proofs.reading.joined.Given as goal

-- the bytes of the pieces so far
abbrev pub invariant-loop-piece : goal.invariant-loop-piece
invariant-loop-piece l = l.bytes.items ≡ flat_map (λ p. p.bytes) (take l.piece-index l.pieces)
