use Rattle.std.proofs.Common.{[], ◌∷◌, ◌++◌, cond, map, filter, sym, ap, ◌∙◌}
use Rattle.std.specs.Map.Iter.{deref_pair}
use Rattle.std.proofs.lemmas.List.{map-append}
use Rattle.std.proofs.lemmas.Map.Iter.{iter_end}
use Rattle.suites.specs.Plan.{is_copied}
use Rattle.suites.specs.declared.item.Item.{Item}
use Rattle.suites.specs.declared.key.ShelfKey.{ShelfKey}
use Rattle.suites.proofs.CopyLemmas.{passing-push}
use Rattle.suites.proofs.copy_plan.copied_items.Goals as goal

pub loop-key-preserved : goal.loop-key-preserved
loop-key-preserved c =
    let test = is_copied c.args.from c.args.source.now c.args.target.now in
    c.in_ok-push_item_if.ensures
    ∙ (λ i. c.loop-key.invariant i ++ cond (c.is_copied-is_copied.ensures i) (c.in-Some.item.now ∷ []) [])
    ∙ passing-push test (map deref_pair c.loop-key.yielded) (c.in-Some.key.now, c.in-Some.item.now)
    ∙ ap (λ es. map (λ (a : ShelfKey × Item). a.1) (filter test es)) (sym (map-append deref_pair c.loop-key.yielded ((c.in-Some.key, c.in-Some.item) ∷ [])))

pub returns : goal.returns
returns c =
    c.loop-key.invariant
    ∙ ap (λ es. map (λ (a : ShelfKey × Item). a.1) (filter (is_copied c.args.from c.args.source.now c.args.target.now) es))
    ((iter_end deref_pair c.items-key-items.result.now.entries c.loop-key.yielded c.into_iter-key-iterator.result c.loop-key.key-iterator c.next.new.self c.next.result c.into_iter-key-iterator.ensures.into_iter_gives.0 c.loop-key.yielded_by c.in-None.is c.next.ensures.steps).0
    ∙ c.items-key-items.ensures)
