use Rattle.std.proofs.Common.{◌≡◌, length, min, take}
use Rattle.tables_audit.specs.Bodies.{bytes_in}
use Rattle.tables_audit.proofs.BodiesLemmas.{among}
use Rattle.tables_audit.proofs.bodies.count_of_bytes.Given as goal

-- the bytes of the pieces of the body so far are counted
abbrev pub invariant-loop-row : goal.invariant-loop-row
invariant-loop-row l = l.count ≡ min (length (bytes_in (among l.id (take l.row-index l.pieces)))) 18446744073709551615
