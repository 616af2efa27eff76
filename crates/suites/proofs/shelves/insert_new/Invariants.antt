use Rattle.std.proofs.Common.{◌≡◌, false, map}
use Rattle.std.specs.BTreeMap.{IsOrdered}
use Rattle.std.specs.FinMap.{get, from_entries}
use Rattle.std.specs.List.{list_any}
use Rattle.std.specs.Ordering.{eq_by_cmp}
use Rattle.suites.specs.Change.{with_all}
use Rattle.suites.specs.Keys.{key_order}
use Rattle.suites.specs.declared.key.ShelfKey.{ShelfKey}
use Rattle.suites.proofs.shelves.insert_new.Given as goal

abbrev pub invariant-loop-key : goal.invariant-loop-key
invariant-loop-key l = record {
  so_far : with_all (from_entries {R = key_order} l.items.entries) l.key-iterator.rest.items ≡ with_all (from_entries {R = key_order} l.initial.items.entries) l.fn.new.items;
  others : (q : ShelfKey) → list_any (eq_by_cmp key_order q) l.keys ≡ false → (get (from_entries {R = key_order} l.items.entries) q ≡ get (from_entries {R = key_order} l.initial.items.entries) q) × (list_any (eq_by_cmp key_order q) (map (λ e. e.0) l.key-iterator.rest.items) ≡ false);
  ordered : IsOrdered key_order l.items;
}
