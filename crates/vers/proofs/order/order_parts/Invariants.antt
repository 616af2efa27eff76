use Rattle.std.proofs.Common.{◌≡◌, ◌+◌, length}
use Rattle.vers.specs.Order.{part_cmp}
use Rattle.vers.proofs.order.order_parts.Given as goal

-- what has not been compared decides
abbrev pub invariant-by_block : goal.invariant-by_block
invariant-by_block l = part_cmp l.left.rest.now l.right.rest.now ≡ part_cmp l.fn.left l.fn.right

abbrev pub decreases-by_block : goal.decreases-by_block
decreases-by_block l = length l.left.rest.now + length l.right.rest.now
