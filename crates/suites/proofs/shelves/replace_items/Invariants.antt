use Rattle.std.proofs.Common.{◌≡◌, true}
use Rattle.std.specs.Prelude.{All}
use Rattle.std.specs.BTreeMap.{IsOrdered}
use Rattle.std.specs.FinMap.{contains_key, from_entries}
use Rattle.suites.specs.Change.{with_all}
use Rattle.suites.specs.Keys.{key_order}
use Rattle.suites.proofs.shelves.replace_items.Given as goal

abbrev pub invariant-loop-key : goal.invariant-loop-key
invariant-loop-key l = record {
  so_far : with_all (from_entries {R = key_order} l.items.entries) l.key-iterator.rest.items ≡ with_all (from_entries {R = key_order} l.initial.items.entries) l.fn.replacing.items;
  present : All (λ e. contains_key (from_entries {R = key_order} l.items.entries) e.0 ≡ true) l.key-iterator.rest.items;
  ordered : IsOrdered key_order l.items;
}
