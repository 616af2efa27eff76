use Rattle.std.proofs.Common.{◌≡◌, ◌∷◌, ◌++◌, [], map, take, ap, ◌∙◌, sym}
use Rattle.std.proofs.lemmas.List.{map-append, take_more}
use Rattle.book.specs.Book.{lacks_of, waiting_of}
use Rattle.keep.specs.Scan.{candidate_view, counted}
use Rattle.book.specs.declared.change.Waiting.{Waiting}
use Rattle.keep.proofs.uploads.waiting_uploads.Goals as goal

pub loop-candidate-preserved : goal.loop-candidate-preserved
loop-candidate-preserved c =
    let all = c.args.arrivals.now in
    let now = counted c.args.counting all in
    let found = c.deref-candidate-items.result.now in
    let i = c.loop-candidate.candidate-index in
    let one = c.candidate-item.result in
    let before = map (waiting_of all now) (map candidate_view (take i found)) in
    let made : Waiting = record { name = c.in_ok-try_clone.field-0; print = c.print.result; lacks = c.in_ok-lacks_of.field-0 } in
    let is : made ≡ waiting_of all now (candidate_view one) =
    λ k. record { name = c.in_ok-try_clone.ensures k; print = c.print.ensures k; lacks = (c.in_ok-lacks_of.ensures ∙ ap (lacks_of all now) c.entries.ensures) k } in
    c.in_ok-push.ensures.items
    ∙ ap (λ ws. ws ++ made ∷ []) c.loop-candidate.invariant
    ∙ ap (λ w. before ++ w ∷ []) is
    ∙ sym (map-append (waiting_of all now) (map candidate_view (take i found)) (candidate_view one ∷ []))
    ∙ ap (map (waiting_of all now)) (
    sym (map-append candidate_view (take i found) (one ∷ []))
    ∙ ap (map candidate_view) (ap (λ x. take i found ++ x ∷ []) c.candidate-item.is ∙ sym (take_more found i one c.loop-candidate-test.true))
    )
