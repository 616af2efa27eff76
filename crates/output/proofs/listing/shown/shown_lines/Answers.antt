use Rattle.std.proofs.Common.{nat_eq, [], ◌∷◌, ◌++◌, cond, map, filter, sym, ap, ◌∙◌}
use Rattle.std.specs.Map.Iter.{deref_pair}
use Rattle.std.proofs.lemmas.List.{map-append}
use Rattle.std.proofs.lemmas.Map.Iter.{iter_end}
use Rattle.suites.specs.declared.item.Item.{Item}
use Rattle.suites.specs.declared.key.ShelfKey.{ShelfKey}
use Rattle.output.specs.Listing.{line_on, shown_in}
use Rattle.output.proofs.ListLemmas.{one_more}
use Rattle.output.proofs.listing.shown.shown_lines.Goals as goal

pub loop-key-preserved : goal.loop-key-preserved
loop-key-preserved c =
    let entry : ShelfKey × Item = (c.in-Some.key.now, c.in-Some.item.now) in
    c.in_ok-push_line_if.ensures
    ∙ (λ i. c.loop-key.invariant i ++ cond (nat_eq entry.0.suite c.args.suite) (line_on entry ∷ []) [])
    ∙ one_more line_on (λ on. nat_eq on.0.suite c.args.suite) (map deref_pair c.loop-key.yielded) entry
    ∙ ap (λ entries. map line_on (filter (λ on. nat_eq on.0.suite c.args.suite) entries)) (sym (map-append deref_pair c.loop-key.yielded ((c.in-Some.key, c.in-Some.item) ∷ [])))

pub returns : goal.returns
unfolding shown_in
returns c =
    c.loop-key.invariant
    ∙ ap (λ entries. map line_on (filter (λ on. nat_eq on.0.suite c.args.suite) entries))
    ((iter_end deref_pair c.items-key-items.result.now.entries c.loop-key.yielded c.into_iter-key-iterator.result c.loop-key.key-iterator c.next.new.self c.next.result c.into_iter-key-iterator.ensures.into_iter_gives.0 c.loop-key.yielded_by c.in-None.is c.next.ensures.steps).0
    ∙ c.items-key-items.ensures)
