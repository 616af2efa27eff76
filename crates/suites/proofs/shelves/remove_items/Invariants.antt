use Rattle.std.proofs.Common.{◌≡◌, cond, take, None}
use Rattle.std.specs.BTreeMap.{IsOrdered}
use Rattle.std.specs.FinMap.{get, from_entries}
use Rattle.std.specs.List.{list_any}
use Rattle.std.specs.Ordering.{eq_by_cmp}
use Rattle.suites.specs.Keys.{key_order}
use Rattle.suites.specs.declared.key.ShelfKey.{ShelfKey}
use Rattle.suites.proofs.shelves.remove_items.Given as goal

abbrev pub invariant-loop-key : goal.invariant-loop-key
invariant-loop-key l = record {
  removed : (q : ShelfKey) → get (from_entries {R = key_order} l.items.entries) q ≡ cond (list_any (eq_by_cmp key_order q) (take l.key-index l.keys)) None (get (from_entries {R = key_order} l.initial.items.entries) q);
  ordered : IsOrdered key_order l.items;
}
