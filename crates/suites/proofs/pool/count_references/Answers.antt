use Rattle.std.proofs.Common.{◌<◌, ◌≤◌, [], ◌∷◌, ◌++◌, map, take, length, Some, cond, bytes_eq, refl, sym, ap, ◌∙◌, arith}
use Rattle.std.proofs.lemmas.List.{take_more, take_all, map-append, length-map, length-take-le}
use Rattle.suites.specs.Counts.{shared_at}
use Rattle.suites.specs.PoolChange.{referred, one_more}
use Rattle.suites.proofs.PoolLemmas.{shared-push}
use Rattle.suites.proofs.pool.count_references.Goals as goal

pub loop-reference-init : goal.loop-reference-init
unfolding shared_at
loop-reference-init c = λ path. rw c.new-files.ensures.empty refl

pub loop-reference-preserved : goal.loop-reference-preserved
loop-reference-preserved c = λ path.
    let done = map referred (take c.loop-reference.reference-index c.args.references.now) in
    let within : c.loop-reference.reference-index ≤ length c.args.references.now = omega arith in
    let small : length (map referred (take c.loop-reference.reference-index c.args.references.now)) < 18446744073709551615 =
    omega (arith, length-map (take c.loop-reference.reference-index c.args.references.now) referred, length-take-le c.loop-reference.reference-index c.args.references.now within) in
    c.in_ok-count_reference.ensures path
    ∙ (λ i. cond (bytes_eq c.reference-item.result.path path)
    (Some (one_more (c.loop-reference.invariant c.reference-item.result.path i) c.reference-item.result.print)) (c.loop-reference.invariant path i))
    ∙ sym (shared-push path done (referred c.reference-item.result) small)
    ∙ ap (shared_at path) (sym (map-append referred (take c.loop-reference.reference-index c.args.references.now) (c.reference-item.result ∷ [])))
    ∙ ap (λ references. shared_at path (map referred references))
    (ap (λ r. take c.loop-reference.reference-index c.args.references.now ++ r ∷ []) c.reference-item.is
    ∙ sym (take_more c.args.references.now c.loop-reference.reference-index c.reference-item.result (omega arith)))

pub returns : goal.returns
returns c = λ path.
    c.loop-reference.invariant path
    ∙ ap (λ references. shared_at path (map referred references)) (take_all c.loop-reference.reference-index c.args.references.now (omega arith))
