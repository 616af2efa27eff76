use Rattle.std.proofs.Common.{◌≡◌, ◌≤◌, length, map, drop}
use Rattle.book.specs.Book.{by_name}
use Rattle.keep.specs.Scan.{entry_at}
use Rattle.keep.proofs.uploads.by_name.Given as goal

abbrev pub invariant-loop-left : goal.invariant-loop-left
invariant-loop-left l = record {
  within : l.left ≤ length l.entries;
  found : map entry_at l.found.items ≡ by_name (drop l.left l.entries);
}

abbrev pub decreases-loop-left : goal.decreases-loop-left
decreases-loop-left l = l.left
