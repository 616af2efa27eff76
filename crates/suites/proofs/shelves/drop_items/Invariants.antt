use Rattle.std.proofs.Common.{◌≡◌, take}
use Rattle.std.specs.BTreeMap.{IsOrdered}
use Rattle.std.specs.FinMap.{from_entries}
use Rattle.suites.specs.Applying.{leaving}
use Rattle.suites.specs.Change.{without}
use Rattle.suites.specs.Keys.{key_order}
use Rattle.suites.proofs.shelves.drop_items.Given as goal

abbrev pub invariant-loop-key : goal.invariant-loop-key
invariant-loop-key l = record {
  so_far : from_entries {R = key_order} l.items.entries ≡ without (from_entries {R = key_order} l.initial.items.entries) (leaving l.plan.put (take l.key-index l.plan.dropped));
  ordered : IsOrdered key_order l.items;
}
