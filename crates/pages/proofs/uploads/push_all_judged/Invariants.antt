use Rattle.std.proofs.Common.{◌≡◌, ◌≤◌, ◌++◌, length, drop, reverse, string_bytes}
use Rattle.std.specs.List.{flat_map}
use Rattle.pages.specs.UploadsPage.{judged_row}
use Rattle.pages.proofs.uploads.push_all_judged.Given as goal

abbrev pub invariant-loop-left : goal.invariant-loop-left
invariant-loop-left l = record {
  within : l.left ≤ length l.judged;
  written : string_bytes l.out ≡ string_bytes l.fn.out ++ flat_map (judged_row l.site) (reverse (drop l.left l.judged));
}

abbrev pub decreases-loop-left : goal.decreases-loop-left
decreases-loop-left l = l.left
