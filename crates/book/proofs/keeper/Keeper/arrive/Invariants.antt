-- The pieces so far are whole ones, and have come.
use Rattle.std.proofs.Common.{◌≡◌, ◌++◌, ◌%◌, ◌<◌, List, ℕ, Some, length}
use Rattle.book.specs.Keeping.{Stays}
use Rattle.book.proofs.keeper.Keeper.arrive.Given as goal

abbrev pub invariant-loop-rest : goal.invariant-loop-rest
invariant-loop-rest g l = record {
  stays : Stays g.Self.Keeper.is_clean g.Self.Keeper.is_open g.Self.Keeper.faults g.Self.Keeper.book g.Self.Keeper.may_leave l.fn.self l.self;
  served : g.Self.Keeper.is_clean l.self → g.Self.Keeper.is_open l.self;
  parts : (front : List ℕ) × (l.fn.body ≡ front ++ l.rest) × (0 < length l.rest → length front % 65536 ≡ 0) × (g.Self.Keeper.is_clean l.self → g.Self.Keeper.coming l.self ≡ Some front);
}

abbrev pub decreases-loop-rest : goal.decreases-loop-rest
decreases-loop-rest g l = length l.rest
