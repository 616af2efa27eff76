use Rattle.std.proofs.Common.{◌≡◌, ◌++◌, drop}
use Rattle.inquiry.specs.Instead.{came_of}
use Rattle.inquiry.proofs.instead.came_of.Given as goal

-- those so far, and those of the rest
abbrev pub invariant-loop-delivered : goal.invariant-loop-delivered
invariant-loop-delivered l = l.prints.items ++ came_of l.counting (drop l.delivered-index l.deliveries) l.lack ≡ came_of l.counting l.deliveries l.lack
