use Rattle.std.proofs.Common.{◌≡◌, ◌≤◌, ◌+◌, drop, length}
use Rattle.figures.specs.Keys.{HasPrints}
use Rattle.figures.specs.Numbers.{bytes_of, each_once}
use Rattle.figures.proofs.kept.contents_of.Given as goal

-- The set has the prints from here on, and these are counted, each once.
abbrev pub invariant-loop-left : goal.invariant-loop-left
invariant-loop-left l = record {
  within : l.contents.count + l.left ≤ length l.prints;
  seen : HasPrints l.seen (drop l.left l.prints);
  count : l.contents.count ≡ length (each_once (drop l.left l.prints));
  bytes : l.contents.bytes ≡ bytes_of (each_once (drop l.left l.prints));
}

abbrev pub decreases-loop-left : goal.decreases-loop-left
decreases-loop-left l = l.left
