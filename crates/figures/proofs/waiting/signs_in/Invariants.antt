use Rattle.std.proofs.Common.{◌≤◌, drop, filter, length}
use Rattle.figures.specs.Keys.{HasSigns}
use Rattle.figures.specs.Numbers.{is_in}
use Rattle.figures.proofs.waiting.signs_in.Given as goal

abbrev pub invariant-loop-left : goal.invariant-loop-left
invariant-loop-left l = record {
  within : l.left ≤ length l.waiting;
  signs : HasSigns l.signs (filter (is_in l.state) (drop l.left l.waiting));
}

abbrev pub decreases-loop-left : goal.decreases-loop-left
decreases-loop-left l = l.left
