use Rattle.std.proofs.Common.{◌≡◌, ◌++◌, map, filter}
use Rattle.std.specs.List.{flat_map}
use Rattle.std.specs.FinMap.{entries}
use Rattle.std.specs.Map.Iter.{deref_pair}
use Rattle.renewing.specs.Stanzas.{is_in_index, stanza_of}
use Rattle.renewing.proofs.stanzas.stanzas_of.Given as goal

-- the stanzas of the items so far
abbrev pub invariant-loop-key : goal.invariant-loop-key
invariant-loop-key l = record {
  written : l.text.items ≡ flat_map (λ a. stanza_of l.listing.kind a.1) (filter (is_in_index l.listing.kind l.listing.suite l.listing.component.now l.listing.architecture.now) (map deref_pair l.yielded));
  rest : map deref_pair l.yielded ++ l.key-iterator ≡ entries l.shelves;
}
