use Rattle.std.proofs.Common.{◌≡◌, MatchBool, filter, not, map, ap, sym, subst₂, ◌∙◌}
use Rattle.std.proofs.lemmas.Result.{IfOk-weaker}
use Rattle.sqlite_keyed.proofs.ListLemmas.{map-map}
use Rattle.sqlite_keyed.proofs.SortLemmas.{sort_by-map}
use Rattle.tables.specs.Uploads.{is_judged as has_place}
use Rattle.tables_meaning.specs.Reads.{row_order, sorted_by}
use Rattle.tables_audit.specs.Uploads.{awaited_view, printed, request_among, request_order, request_row}
use Rattle.tables_audit.proofs.UploadsOrders.{requests_apart, sorted_tells}
use Rattle.tables_audit.proofs.uploads.wanted.are_requests.Goals as goal

pub returns : goal.returns
returns c apart =
    let f = request_row c.args.wants.now.all.now in
    let g = request_among (map printed c.args.arrived.now.all.now) in
    let rows = filter (λ x. not (has_place x.1)) c.args.uploads.now in
    let waiting = map awaited_view c.args.awaited.items in
    let left : map (λ x. f x.now) c.deref.result.now ≡ sorted_by request_order (map f rows) =
    ap (map (λ x. f x.now)) c.deref.ensures.value
    ∙ sym (map-map f (λ x. x.now) c.in_ok-rows.rows.items)
    ∙ ap (map f) (c.in_ok-rows.ensures ∙ ap (sorted_by row_order) c.in_ok-unplaced.ensures)
    ∙ sym (sort_by-map request_order f rows) in
    let right : map (λ a. g (awaited_view a)) c.deref-2.result.now ≡ sorted_by request_order (map g waiting) =
    ap (map (λ a. g (awaited_view a))) c.deref-2.ensures.value
    ∙ sym (map-map g awaited_view c.in_ok-all.all.items)
    ∙ ap (map g) c.in_ok-all.ensures
    ∙ sym (sort_by-map request_order g waiting) in
    IfOk-weaker c.are_each.result _ _
    (λ b m. sorted_tells b (map f rows) (map g waiting) (requests_apart c.args.uploads.now c.args.wants.now.all.now apart)
    (subst₂ (λ x y. MatchBool b (x ≡ y) (x ≡ y → ⊥)) left right m)) c.are_each.ensures
