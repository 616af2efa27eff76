use Rattle.std.proofs.Common.{◌≡◌, drop, map}
use Rattle.vers.specs.Order.{weight, key_cmp}
use Rattle.vers.proofs.order.order_non_digits.Given as goal

-- what has not been compared decides
abbrev pub invariant-loop-i : goal.invariant-loop-i
invariant-loop-i l = key_cmp (drop l.i (map weight l.left)) (drop l.i (map weight l.right)) ≡ key_cmp (map weight l.left) (map weight l.right)
