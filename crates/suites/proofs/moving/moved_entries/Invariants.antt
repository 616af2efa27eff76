use Rattle.std.proofs.Common.{◌≡◌, ◌++◌}
use Rattle.std.specs.List.{filter_map, list_all}
use Rattle.std.specs.FinMap.{entries}
use Rattle.suites.specs.Moved.{moved_entry, stays_kept}
use Rattle.suites.proofs.moving.moved_entries.Given as goal

abbrev pub invariant-loop-key : goal.invariant-loop-key
invariant-loop-key l = record {
  so_far : l.moved.items ++ filter_map (moved_entry l.old l.new) l.key-iterator ≡ filter_map (moved_entry l.old l.new) (entries l.shelves);
  stay : list_all (stays_kept l.old l.new) l.key-iterator ≡ list_all (stays_kept l.old l.new) (entries l.shelves);
}
