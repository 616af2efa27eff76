use Rattle.std.proofs.Common.{◌≡◌, ◌++◌, map, filter}
use Rattle.std.specs.List.{flat_map}
use Rattle.std.specs.FinMap.{entries}
use Rattle.std.specs.Map.Iter.{deref_pair}
use Rattle.indices.specs.Listed.{is_in_packages}
use Rattle.indices.specs.Stanzas.{package_stanza}
use Rattle.texts.proofs.binary_index.push_packages.Given as goal

abbrev pub invariant-loop-key : goal.invariant-loop-key
invariant-loop-key l = record {
  written : l.out.items ≡ l.fn.out.items ++ flat_map (λ a. package_stanza a.1) (filter (is_in_packages l.suite l.component l.architecture) (map deref_pair l.yielded));
  rest : map deref_pair l.yielded ++ l.key-iterator ≡ entries l.shelves;
}
