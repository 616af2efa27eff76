use Rattle.std.proofs.Common.{◌≡◌, ◌++◌, false, map}
use Rattle.std.specs.FinMap.{entries}
use Rattle.std.specs.List.{list_any}
use Rattle.std.specs.Map.Iter.{deref_pair}
use Rattle.suites.specs.Plan.{is_of_source}
use Rattle.history.proofs.copy.shows_source.Given as goal

abbrev pub invariant-loop-key : goal.invariant-loop-key
invariant-loop-key l = record {
  none : list_any (is_of_source l.suite l.source) (map deref_pair l.yielded) ≡ false;
  rest : map deref_pair l.yielded ++ l.key-iterator ≡ entries l.shelves;
}
