use Rattle.std.proofs.Common.{◌≡◌, take}
use Rattle.std.specs.FinMap.{get}
use Rattle.std.specs.List.{flat_map}
use Rattle.suites.specs.Plan.{kept_by}
use Rattle.suites.proofs.copy_plan.kept_items.Given as goal

abbrev pub invariant-loop-key : goal.invariant-loop-key
invariant-loop-key l = l.items.items ≡ flat_map (λ key. kept_by l.target (get l.shelves key)) (take l.key-index l.keys)
