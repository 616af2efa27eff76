use Rattle.std.proofs.Common.{◌≡◌, ◌++◌, map, filter}
use Rattle.std.specs.FinMap.{entries}
use Rattle.std.specs.Map.Iter.{deref_pair}
use Rattle.pages.specs.SuitePage.{is_of}
use Rattle.pages.proofs.grouped.items_of.Given as goal

abbrev pub invariant-loop-key : goal.invariant-loop-key
invariant-loop-key l = record {
  kept : map (λ i. i.now) l.items.items ≡ map (λ a. a.1) (filter (is_of l.suite) (map deref_pair l.yielded));
  rest : map deref_pair l.yielded ++ l.key-iterator ≡ entries l.shelves;
}
