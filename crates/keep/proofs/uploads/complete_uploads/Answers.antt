use Rattle.std.proofs.Common.{◌∷◌, ◌++◌, [], map, filter, ap, ◌∙◌, sym}
use Rattle.std.proofs.lemmas.List.{map-append}
use Rattle.std.specs.List.{list_all}
use Rattle.book.specs.Book.{is_complete, is_there, upload_of}
use Rattle.keep.specs.Scan.{candidate_view, counted}
use Rattle.keep.proofs.Kept.{kept_more, left_more}
use Rattle.keep.proofs.uploads.complete_uploads.Goals as goal

pub upload_of-requires : goal.upload_of-requires
unfolding is_complete
upload_of-requires c =
    sym (c.are_there.ensures ∙ ap (list_all (is_there (counted c.args.counting c.args.arrivals.now))) c.entries.ensures) ∙ c.if-are_there.true

pub loop-candidate-preserved-in_ok-push : goal.loop-candidate-preserved-in_ok-push
unfolding is_complete
loop-candidate-preserved-in_ok-push c =
    let arrivals = counted c.args.counting c.args.arrivals.now in
    c.in_ok-push.ensures.items
    ∙ ap (λ us. us ++ c.in_ok-upload_of.field-0 ∷ []) c.loop-candidate.invariant
    ∙ ap (λ u. map (upload_of arrivals) (filter (is_complete arrivals) (map candidate_view c.loop-candidate.yielded)) ++ u ∷ []) c.in_ok-upload_of.ensures
    ∙ kept_more (upload_of arrivals) (is_complete arrivals) (map candidate_view c.loop-candidate.yielded) (candidate_view c.in-Some.candidate)
    (sym (c.are_there.ensures ∙ ap (list_all (is_there arrivals)) c.entries.ensures) ∙ c.if-are_there.true)
    ∙ ap (λ cs. map (upload_of arrivals) (filter (is_complete arrivals) cs)) (sym (map-append candidate_view c.loop-candidate.yielded (c.in-Some.candidate ∷ [])))

pub loop-candidate-preserved : goal.loop-candidate-preserved
unfolding is_complete
loop-candidate-preserved c =
    let arrivals = counted c.args.counting c.args.arrivals.now in
    c.loop-candidate.invariant
    ∙ left_more (upload_of arrivals) (is_complete arrivals) (map candidate_view c.loop-candidate.yielded) (candidate_view c.in-Some.candidate)
    (sym (c.are_there.ensures ∙ ap (list_all (is_there arrivals)) c.entries.ensures) ∙ c.if-are_there.false)
    ∙ ap (λ cs. map (upload_of arrivals) (filter (is_complete arrivals) cs)) (sym (map-append candidate_view c.loop-candidate.yielded (c.in-Some.candidate ∷ [])))
