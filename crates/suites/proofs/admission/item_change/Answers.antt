use Rattle.std.proofs.Common.{◌≡◌, [], ◌∷◌, ◌++◌, map, ap, sym, ◌∙◌, map-id}
use Rattle.std.proofs.lemmas.Map.Iter.{iter_end}
use Rattle.suites.specs.Admission.{arriving, replaced}
use Rattle.suites.specs.Shelves.{version_of}
use Rattle.suites.specs.declared.item.Item.{Item}
use Rattle.suites.specs.declared.key.ShelfKey.{ShelfKey}
use Rattle.suites.proofs.AdmissionLemmas.{arriving-push, replaced-push}
use Rattle.suites.proofs.admission.item_change.Goals as goal

pub loop-key-preserved : goal.loop-key-preserved
loop-key-preserved c = (
  c.in_ok-add_arrival.ensures.put
      ∙ ap (λ items. items ++ arriving version_of c.args.shelves.now ((c.in-Some.key, c.in-Some.item) ∷ [])) c.loop-key.invariant.0
      ∙ arriving-push version_of c.args.shelves.now c.loop-key.yielded (c.in-Some.key, c.in-Some.item),
  c.in_ok-add_arrival.ensures.dropped
      ∙ ap (λ items. items ++ replaced c.args.shelves.now (arriving version_of c.args.shelves.now ((c.in-Some.key, c.in-Some.item) ∷ []))) c.loop-key.invariant.1
      ∙ replaced-push version_of c.args.shelves.now c.loop-key.yielded (c.in-Some.key, c.in-Some.item),
)

pub returns-clause-put : goal.returns-clause-put
returns-clause-put c =
    let all : map (λ (e : ShelfKey × Item). e) c.loop-key.yielded ≡ c.args.items.entries =
    (iter_end (λ (e : ShelfKey × Item). e) c.args.items.entries c.loop-key.yielded c.into_iter-key-iterator.result c.loop-key.key-iterator c.next.new.self c.next.result c.into_iter-key-iterator.ensures.into_iter_gives.0 c.loop-key.yielded_by c.in-None.is c.next.ensures.steps).0 in
    c.loop-key.invariant.0 ∙ ap (arriving version_of c.args.shelves.now) (sym (map-id c.loop-key.yielded) ∙ all)

pub returns-clause-dropped : goal.returns-clause-dropped
returns-clause-dropped c =
    let all : map (λ (e : ShelfKey × Item). e) c.loop-key.yielded ≡ c.args.items.entries =
    (iter_end (λ (e : ShelfKey × Item). e) c.args.items.entries c.loop-key.yielded c.into_iter-key-iterator.result c.loop-key.key-iterator c.next.new.self c.next.result c.into_iter-key-iterator.ensures.into_iter_gives.0 c.loop-key.yielded_by c.in-None.is c.next.ensures.steps).0 in
    c.loop-key.invariant.1 ∙ ap (λ items. replaced c.args.shelves.now (arriving version_of c.args.shelves.now items)) (sym (map-id c.loop-key.yielded) ∙ all)
