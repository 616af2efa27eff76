use Rattle.std.proofs.Common.{◌≡◌, ◌≤◌, ℕ, All, length, take}
use Rattle.sums.specs.Prints.{Holds}
use Rattle.tables_audit.specs.Bodies.{bytes_in}
use Rattle.tables_audit.proofs.BodiesLemmas.{AreFirst, views}
use Rattle.tables_audit.proofs.bodies.are_pieces_of.Given as goal

-- the pieces so far are the first ones of a body of this size, and the printer has their bytes
abbrev pub invariant-loop-piece : goal.invariant-loop-piece
invariant-loop-piece l = record {
  first : (id : ℕ) → All (λ p. p.body ≡ id) (views l.pieces) → AreFirst id l.print.size l.size (views (take l.piece-index l.pieces));
  within : l.size ≤ l.print.size;
  long : l.size ≡ length (bytes_in (views (take l.piece-index l.pieces)));
  holds : Holds l.printer (bytes_in (views (take l.piece-index l.pieces)));
}
