use Rattle.std.proofs.Common.{◌≡◌, List, [], ◌++◌, map, filter, sym, ap, ◌∙◌, ◌∷◌}
use Rattle.std.proofs.lemmas.List.{map-append}
use Rattle.std.specs.Map.Iter.{deref_pair}
use Rattle.suites.specs.declared.key.ShelfKey.{ShelfKey}
use Rattle.suites.specs.declared.item.Item.{Item}
use Rattle.indices.proofs.Listing.{shown_more, all_shown}
use Rattle.pages.specs.SuitePage.{is_of}
use Rattle.pages.proofs.RowOrders.{kept_more}
use Rattle.pages.proofs.grouped.items_of.Goals as goal

pub loop-key-init : goal.loop-key-init
loop-key-init c = record {
  kept = ap (map (λ i. i.now)) c.new-items.ensures.items;
  rest = c.into_iter-key-iterator.ensures.into_iter_gives.0 ∙ c.items-key-items.ensures;
}

pub loop-key-preserved : goal.loop-key-preserved
loop-key-preserved c = record {
  kept = kept_more (is_of c.args.suite) (λ a. a.1)
      (map deref_pair c.loop-key.yielded) (c.in-Some.key.now, c.in-Some.item.now) _ _
      c.loop-key.invariant.kept c.in_ok-push_shown.ensures
      ∙ ap (λ (xs : List (ShelfKey × Item)). map (λ a. a.1) (filter (is_of c.args.suite) xs))
      (sym (map-append deref_pair c.loop-key.yielded ((c.in-Some.key, c.in-Some.item) ∷ [])));
  rest = shown_more deref_pair c.loop-key.yielded (c.in-Some.key, c.in-Some.item) _ _ _ c.in-Some.ensures.steps c.loop-key.invariant.rest;
}

pub returns : goal.returns
returns c =
    c.loop-key.invariant.kept
    ∙ ap (λ (xs : List (ShelfKey × Item)). map (λ a. a.1) (filter (is_of c.args.suite) xs))
    (all_shown deref_pair c.loop-key.yielded c.loop-key.key-iterator _ c.in-None.ensures.steps.0 c.loop-key.invariant.rest)
