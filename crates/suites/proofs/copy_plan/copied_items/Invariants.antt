use Rattle.std.proofs.Common.{◌≡◌, map, filter}
use Rattle.std.specs.Map.Iter.{deref_pair}
use Rattle.suites.specs.Plan.{is_copied}
use Rattle.suites.proofs.copy_plan.copied_items.Given as goal

abbrev pub invariant-loop-key : goal.invariant-loop-key
invariant-loop-key l = l.items.items ≡ map (λ a. a.1) (filter (is_copied l.from l.source l.target) (map deref_pair l.yielded))
