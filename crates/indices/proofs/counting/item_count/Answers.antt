use Rattle.std.proofs.Common.{refl, Bool, List, [], ◌∷◌, map, filter, length, sym, ap, ◌∙◌}
use Rattle.std.proofs.lemmas.List.{map-append}
use Rattle.std.specs.Map.Iter.{deref_pair}
use Rattle.suites.specs.declared.key.ShelfKey.{ShelfKey}
use Rattle.suites.specs.declared.item.Item.{Item}
use Rattle.indices.proofs.Listing.{shown_more, all_shown}
use Rattle.indices.specs.Counting.{is_counted, item_count}
use Rattle.indices.proofs.Counted.{counted, counted_more}
use Rattle.indices.proofs.counting.item_count.Goals as goal

pub loop-key-init : goal.loop-key-init
loop-key-init c = record {
  counted = refl;
  rest = c.into_iter-key-iterator.ensures.into_iter_gives.0 ∙ c.items-key-items.ensures;
}

pub loop-key-preserved : goal.loop-key-preserved
loop-key-preserved c = record {
  counted = counted_more (is_counted c.args.suite c.args.kind) (map deref_pair c.loop-key.yielded) (c.in-Some.key.now, c.in-Some.item.now)
      c.loop-key.count c.in_ok-count.count c.loop-key.invariant.counted
      (c.in_ok-count.ensures ∙ ap (λ (counts : Bool). counted counts c.loop-key.count) c.is_counted.ensures)
      ∙ ap (λ (xs : List (ShelfKey × Item)). length (filter (is_counted c.args.suite c.args.kind) xs))
      (sym (map-append deref_pair c.loop-key.yielded ((c.in-Some.key, c.in-Some.item) ∷ [])));
  rest = shown_more deref_pair c.loop-key.yielded (c.in-Some.key, c.in-Some.item) _ _ _ c.in-Some.ensures.steps c.loop-key.invariant.rest;
}

pub returns : goal.returns
unfolding item_count
returns c =
    c.loop-key.invariant.counted
    ∙ ap (λ (xs : List (ShelfKey × Item)). length (filter (is_counted c.args.suite c.args.kind) xs))
    (all_shown deref_pair c.loop-key.yielded c.loop-key.key-iterator _ c.in-None.ensures.steps.0 c.loop-key.invariant.rest)
