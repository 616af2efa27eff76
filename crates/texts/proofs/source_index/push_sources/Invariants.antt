use Rattle.std.proofs.Common.{◌≡◌, ◌++◌, map, filter}
use Rattle.std.specs.List.{flat_map}
use Rattle.std.specs.FinMap.{entries}
use Rattle.std.specs.Map.Iter.{deref_pair}
use Rattle.indices.specs.Listed.{is_in_sources}
use Rattle.indices.specs.Stanzas.{source_stanza}
use Rattle.texts.proofs.source_index.push_sources.Given as goal

abbrev pub invariant-loop-key : goal.invariant-loop-key
invariant-loop-key l = record {
  written : l.out.items ≡ l.fn.out.items ++ flat_map (λ a. source_stanza a.1) (filter (is_in_sources l.suite l.component) (map deref_pair l.yielded));
  rest : map deref_pair l.yielded ++ l.key-iterator ≡ entries l.shelves;
}
