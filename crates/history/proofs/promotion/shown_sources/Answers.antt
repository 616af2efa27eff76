use Rattle.std.proofs.Common.{[], ◌∷◌, cond, map, sym, ap, ◌∙◌}
use Rattle.std.specs.Map.Iter.{deref_pair}
use Rattle.std.proofs.lemmas.List.{map-append}
use Rattle.std.proofs.lemmas.Map.Iter.{iter_end}
use Rattle.history.specs.Archives.{each_once, with_name}
use Rattle.history.specs.Promotions.{sources_on}
use Rattle.history.proofs.PromotionSteps.{source-push, sources_among}
use Rattle.history.proofs.promotion.shown_sources.Goals as goal

pub loop-key-preserved : goal.loop-key-preserved
loop-key-preserved c =
    c.in_ok-add_name_if.ensures
    ∙ (λ i. cond (c.is_in-is_shown.ensures i) (with_name (c.loop-key.invariant i) (c.as_str.ensures i)) (c.loop-key.invariant i))
    ∙ source-push c.args.suite (map deref_pair c.loop-key.yielded) (c.in-Some.key.now, c.in-Some.item.now)
    ∙ ap (λ es. each_once (sources_among c.args.suite es)) (sym (map-append deref_pair c.loop-key.yielded ((c.in-Some.key, c.in-Some.item) ∷ [])))

pub returns : goal.returns
unfolding sources_on
returns c =
    c.loop-key.invariant
    ∙ ap (λ es. each_once (sources_among c.args.suite es))
    ((iter_end deref_pair c.items-key-items.result.now.entries c.loop-key.yielded c.into_iter-key-iterator.result c.loop-key.key-iterator c.next.new.self c.next.result c.into_iter-key-iterator.ensures.into_iter_gives.0 c.loop-key.yielded_by c.in-None.is c.next.ensures.steps).0
    ∙ c.items-key-items.ensures)
