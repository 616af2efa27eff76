use Rattle.std.proofs.Common.{List, [], ◌++◌, map, filter, sym, ap, ◌∙◌, ◌∷◌}
use Rattle.std.proofs.lemmas.List.{append-nil, map-append}
use Rattle.std.specs.List.{flat_map}
use Rattle.std.specs.Map.Iter.{deref_pair}
use Rattle.suites.specs.declared.key.ShelfKey.{ShelfKey}
use Rattle.suites.specs.declared.item.Item.{Item}
use Rattle.para.proofs.Fronts.{front_trans, front_append}
use Rattle.indices.specs.Listed.{is_in_packages}
use Rattle.indices.specs.Stanzas.{package_stanza, packages_text}
use Rattle.indices.proofs.Listing.{listed_more, shown_more, all_shown}
use Rattle.texts.proofs.binary_index.push_packages.Goals as goal

pub loop-key-init : goal.loop-key-init
loop-key-init c = record {
  written = sym (append-nil c.args.out.now.items);
  rest = c.into_iter-key-iterator.ensures.into_iter_gives.0 ∙ c.items-key-items.ensures;
}

pub loop-key-preserved : goal.loop-key-preserved
loop-key-preserved c = record {
  written = listed_more (is_in_packages c.args.suite c.args.component.now c.args.architecture.now) (λ a. package_stanza a.1)
      (map deref_pair c.loop-key.yielded) (c.in-Some.key.now, c.in-Some.item.now)
      c.args.out.now.items c.loop-key.out.items c.push_listed.new.out.items
      c.loop-key.invariant.written c.in_ok-push_listed.ensures.ok
      ∙ ap (λ (xs : List (ShelfKey × Item)). c.args.out.now.items ++ flat_map (λ a. package_stanza a.1) (filter (is_in_packages c.args.suite c.args.component.now c.args.architecture.now) xs))
      (sym (map-append deref_pair c.loop-key.yielded ((c.in-Some.key, c.in-Some.item) ∷ [])));
  rest = shown_more deref_pair c.loop-key.yielded (c.in-Some.key, c.in-Some.item) _ _ _ c.in-Some.ensures.steps c.loop-key.invariant.rest;
}

pub returns-in_err-push_listed-clause-front : goal.returns-in_err-push_listed-clause-front
returns-in_err-push_listed-clause-front c =
    front_trans c.args.out.now.items c.loop-key.out.items c.push_listed.new.out.items
    (front_append _ _ _ c.loop-key.invariant.written) c.push_listed.ensures.front

pub returns-clause-front : goal.returns-clause-front
returns-clause-front c = front_append _ _ _ c.loop-key.invariant.written

pub returns-clause-ok : goal.returns-clause-ok
unfolding packages_text
returns-clause-ok c =
    c.loop-key.invariant.written
    ∙ ap (λ (xs : List (ShelfKey × Item)). c.args.out.now.items ++ flat_map (λ a. package_stanza a.1) (filter (is_in_packages c.args.suite c.args.component.now c.args.architecture.now) xs))
    (all_shown deref_pair c.loop-key.yielded c.loop-key.key-iterator _ c.in-None.ensures.steps.0 c.loop-key.invariant.rest)
