use Rattle.std.proofs.Common.{◌≡◌, map, take}
use Rattle.old_book.proofs.bodied.numbers_of.Given as goal

-- the numbers so far
abbrev pub invariant-loop-row : goal.invariant-loop-row
invariant-loop-row l = l.ids.items ≡ map (λ x. x.0) (take l.row-index l.bodies)
