use Rattle.std.proofs.Common.{List, [], ◌++◌, map, filter, sym, ap, ◌∙◌, ◌∷◌}
use Rattle.std.proofs.lemmas.List.{map-append}
use Rattle.std.specs.List.{flat_map}
use Rattle.std.specs.Map.Iter.{deref_pair}
use Rattle.suites.specs.declared.key.ShelfKey.{ShelfKey}
use Rattle.suites.specs.declared.item.Item.{Item}
use Rattle.indices.proofs.Listing.{listed_more, shown_more, all_shown}
use Rattle.renewing.specs.Stanzas.{is_in_index, stanza_of, stanzas_of}
use Rattle.renewing.proofs.stanzas.stanzas_of.Goals as goal

pub loop-key-init : goal.loop-key-init
loop-key-init c = record {
  written = c.new-text.ensures.items;
  rest = c.into_iter-key-iterator.ensures.into_iter_gives.0 ∙ c.items-key-items.ensures;
}

pub loop-key-preserved : goal.loop-key-preserved
loop-key-preserved c =
    let listing = c.args.listing.now in
    let lists = is_in_index listing.kind listing.suite listing.component.now listing.architecture.now in
    record {
      written = listed_more lists (λ a. stanza_of listing.kind a.1)
          (map deref_pair c.loop-key.yielded) (c.in-Some.key.now, c.in-Some.item.now)
          [] c.loop-key.text.items c.push_listed.new.out.items
          c.loop-key.invariant.written c.in_ok-push_listed.ensures
          ∙ ap (λ (xs : List (ShelfKey × Item)). flat_map (λ a. stanza_of listing.kind a.1) (filter lists xs))
          (sym (map-append deref_pair c.loop-key.yielded ((c.in-Some.key, c.in-Some.item) ∷ [])));
      rest = shown_more deref_pair c.loop-key.yielded (c.in-Some.key, c.in-Some.item) _ _ _ c.in-Some.ensures.steps c.loop-key.invariant.rest;
    }

pub returns : goal.returns
unfolding stanzas_of
returns c =
    let listing = c.args.listing.now in
    c.loop-key.invariant.written
    ∙ ap (λ (xs : List (ShelfKey × Item)). flat_map (λ a. stanza_of listing.kind a.1) (filter (is_in_index listing.kind listing.suite listing.component.now listing.architecture.now) xs))
    (all_shown deref_pair c.loop-key.yielded c.loop-key.key-iterator _ c.in-None.ensures.steps.0 c.loop-key.invariant.rest)
