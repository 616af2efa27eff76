use Rattle.std.proofs.Common.{◌≡◌}
use Rattle.suites.specs.Admission.{arriving, replaced}
use Rattle.suites.specs.Shelves.{version_of}
use Rattle.suites.proofs.admission.item_change.Given as goal

abbrev pub invariant-loop-key : goal.invariant-loop-key
invariant-loop-key l =
    (l.change.put.items ≡ arriving version_of l.shelves l.yielded)
    × (l.change.dropped.items ≡ replaced l.shelves (arriving version_of l.shelves l.yielded))
