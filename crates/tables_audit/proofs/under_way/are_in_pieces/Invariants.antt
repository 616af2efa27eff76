use Rattle.std.proofs.Common.{◌≡◌, ◌≤◌, ℕ, All, take}
use Rattle.tables_audit.proofs.BodiesLemmas.{views}
use Rattle.tables_audit.proofs.UnderWayLemmas.{AreSoFar}
use Rattle.tables_audit.proofs.under_way.are_in_pieces.Given as goal

-- the pieces so far are those of their bytes
abbrev pub invariant-loop-piece : goal.invariant-loop-piece
invariant-loop-piece l = record {
  few : l.count ≤ l.piece-index;
  so_far : (id : ℕ) → All (λ p. p.body ≡ id) (views l.pieces) → AreSoFar id l.count l.is_full (views (take l.piece-index l.pieces));
}
