use Rattle.std.proofs.Common.{[], ◌∷◌, ◌++◌, cond, map, filter, sym, ap, ◌∙◌}
use Rattle.std.specs.Map.Iter.{deref_pair}
use Rattle.std.proofs.lemmas.List.{map-append}
use Rattle.std.proofs.lemmas.List.Elements.{filter-append}
use Rattle.std.proofs.lemmas.Map.Iter.{iter_end}
use Rattle.suites.specs.Plan.{is_removed, removed}
use Rattle.suites.proofs.removal_plan.removed_entries.Goals as goal

pub loop-key-preserved : goal.loop-key-preserved
loop-key-preserved c =
    let test = is_removed c.args.suite c.args.name.now in
    c.in_ok-push_entry_if.ensures
    ∙ (λ i. c.loop-key.invariant i ++ cond (c.is_removed-is_removed.ensures i) ((c.in-Some.key.now, c.in-Some.item.now) ∷ []) [])
    ∙ sym (filter-append test (map deref_pair c.loop-key.yielded) ((c.in-Some.key.now, c.in-Some.item.now) ∷ []))
    ∙ ap (filter test) (sym (map-append deref_pair c.loop-key.yielded ((c.in-Some.key, c.in-Some.item) ∷ [])))

pub returns : goal.returns
unfolding removed
returns c =
    c.loop-key.invariant
    ∙ ap (filter (is_removed c.args.suite c.args.name.now))
    ((iter_end deref_pair c.items-key-items.result.now.entries c.loop-key.yielded c.into_iter-key-iterator.result c.loop-key.key-iterator c.next.new.self c.next.result c.into_iter-key-iterator.ensures.into_iter_gives.0 c.loop-key.yielded_by c.in-None.is c.next.ensures.steps).0
    ∙ c.items-key-items.ensures)
