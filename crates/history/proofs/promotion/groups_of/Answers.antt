use Rattle.std.proofs.Common.{[], ◌∷◌, ◌++◌, cond, bytes_eq, map, sym, ap, ◌∙◌}
use Rattle.std.specs.Map.Iter.{deref_pair}
use Rattle.std.proofs.lemmas.List.{map-append}
use Rattle.std.proofs.lemmas.Map.Iter.{iter_end}
use Rattle.suites.specs.Plan.{shelves_of}
use Rattle.history.proofs.PromotionGroups.{key-push, keys_among}
use Rattle.history.proofs.promotion.groups_of.Goals as goal

pub loop-key-preserved : goal.loop-key-preserved
loop-key-preserved c = λ q.
    c.in_ok-add_key_if.ensures q
    ∙ (λ i. cond (c.is_in-is_shown.ensures i) (c.loop-key.invariant q i ++ cond (bytes_eq (c.as_str.ensures i) q) (c.in-Some.key.now ∷ []) []) (c.loop-key.invariant q i))
    ∙ key-push c.args.suite q (map deref_pair c.loop-key.yielded) (c.in-Some.key.now, c.in-Some.item.now)
    ∙ ap (keys_among c.args.suite q) (sym (map-append deref_pair c.loop-key.yielded ((c.in-Some.key, c.in-Some.item) ∷ [])))

pub returns : goal.returns
unfolding shelves_of
returns c = λ q.
    c.loop-key.invariant q
    ∙ ap (keys_among c.args.suite q)
    ((iter_end deref_pair c.items-key-items.result.now.entries c.loop-key.yielded c.into_iter-key-iterator.result c.loop-key.key-iterator c.next.new.self c.next.result c.into_iter-key-iterator.ensures.into_iter_gives.0 c.loop-key.yielded_by c.in-None.is c.next.ensures.steps).0
    ∙ c.items-key-items.ensures)
