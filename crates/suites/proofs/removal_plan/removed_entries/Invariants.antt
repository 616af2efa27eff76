use Rattle.std.proofs.Common.{◌≡◌, map, filter}
use Rattle.std.specs.Map.Iter.{deref_pair}
use Rattle.suites.specs.Plan.{is_removed}
use Rattle.suites.proofs.removal_plan.removed_entries.Given as goal

abbrev pub invariant-loop-key : goal.invariant-loop-key
invariant-loop-key l = l.entries.items ≡ filter (is_removed l.suite l.name) (map deref_pair l.yielded)
