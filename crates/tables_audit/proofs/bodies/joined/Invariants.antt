use Rattle.std.proofs.Common.{◌≡◌, map, take}
use Rattle.tables_audit.specs.Bodies.{bytes_in}
use Rattle.tables_audit.proofs.bodies.joined.Given as goal

-- the bytes of the pieces so far
abbrev pub invariant-loop-piece : goal.invariant-loop-piece
invariant-loop-piece l = l.bytes.items ≡ bytes_in (map (λ p. p.now) (take l.piece-index l.pieces))
