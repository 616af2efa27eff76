use Rattle.std.proofs.Common.{◌≡◌, ◌≤◌, length, map, drop}
use Rattle.keep.specs.Scan.{candidate_view, counted, unjudged_in}
use Rattle.keep.proofs.uploads.unjudged.Given as goal

abbrev pub invariant-loop-left : goal.invariant-loop-left
invariant-loop-left l = record {
  within : l.left ≤ length l.arrivals;
  found : map candidate_view l.found.items ≡ unjudged_in (counted l.counting (drop l.left l.arrivals)) l.judged;
}

abbrev pub decreases-loop-left : goal.decreases-loop-left
decreases-loop-left l = l.left
