use Rattle.std.proofs.Common.{◌≡◌, ◌++◌, map, filter, length}
use Rattle.std.specs.FinMap.{entries}
use Rattle.std.specs.Map.Iter.{deref_pair}
use Rattle.indices.specs.Counting.{is_counted}
use Rattle.indices.proofs.counting.item_count.Given as goal

abbrev pub invariant-loop-key : goal.invariant-loop-key
invariant-loop-key l = record {
  counted : l.count ≡ length (filter (is_counted l.suite l.kind) (map deref_pair l.yielded));
  rest : map deref_pair l.yielded ++ l.key-iterator ≡ entries l.shelves;
}
