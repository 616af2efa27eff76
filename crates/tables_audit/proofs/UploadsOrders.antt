-- Requests in the order of judging: lists of them that have the same elements, in some order.
use Rattle.std.proofs.Common.{◌≡◌, Bool, true, false, not, List, [], map, filter, length, MatchBool, IsPermutation, sym, ap, ◌∙◌, arith}
use Rattle.std.specs.Cmp.{IsTotalOrder}
use Rattle.std.specs.Ordering.{is_eq}
use Rattle.std.proofs.lemmas.Cmp.{on_total}
use Rattle.std.proofs.lemmas.List.{length-map, nil_from_length}
use Rattle.std.proofs.lemmas.List.Sorted.{IsPermutation-sym, IsPermutation-trans, length_permutation}
use Rattle.sqlite_trees.specs.Tree.{IsAscending}
use Rattle.sqlite_keyed.specs.Lists.{sort_by as sorted_by}
use Rattle.sqlite_keyed.proofs.ListLemmas.{IsPermutation-same, ascending-map}
use Rattle.sqlite_keyed.proofs.SortLemmas.{IsPermutation-sort_by}
use Rattle.tables.specs.Rows.{Numbered}
use Rattle.tables.specs.Uploads.{is_judged as has_place}
use Rattle.tables.specs.declared.rows.UploadRow.{UploadRow}
use Rattle.tables.specs.declared.rows.Want.{Want}
use Rattle.tables_meaning.specs.Kept.{Request}
use Rattle.tables_meaning.proofs.OrderLemmas.{signs_apart}
use Rattle.tables_meaning.proofs.Orders.{permuted_same}
use Rattle.tables_meaning.proofs.SignOrder.{judging_order_total}
use Rattle.tables_audit.specs.Uploads.{AreApart, AreAsked, Waiting, awaited_view, printed, request_among, request_order, request_row, waiting_order}
use Rattle.tables_audit.specs.declared.uploads.arrived.Arrived.{Arrived}
use Rattle.tables_audit.specs.declared.uploads.awaited.Awaited.{Awaited}

pub request_order_total : IsTotalOrder request_order
request_order_total = on_total (λ (r : Request). r.0) judging_order_total

pub waiting_order_total : IsTotalOrder waiting_order
waiting_order_total = on_total (λ (w : Waiting). (w.0.0.name, w.0.1)) judging_order_total

-- lists of which the first has no ties have the same elements exactly if their sortings are equal
pub sorted_tells : (b : Bool) (xs ys : List Request) → IsAscending (λ r s. is_eq (request_order r s) ≡ false) xs
    → MatchBool b (sorted_by request_order xs ≡ sorted_by request_order ys) (sorted_by request_order xs ≡ sorted_by request_order ys → ⊥)
    → MatchBool b (IsPermutation xs ys) (IsPermutation xs ys → ⊥)
sorted_tells true xs ys apart e =
    IsPermutation-trans _ _ _ (IsPermutation-sym _ _ (IsPermutation-sort_by request_order request_order_total xs))
    (IsPermutation-trans _ _ _ (IsPermutation-same _ _ e) (IsPermutation-sort_by request_order request_order_total ys))
sorted_tells false xs ys apart differ = λ same. differ (sym (permuted_same request_order request_order_total xs ys apart same))

-- the requests of rows without a place have no ties
pub requests_apart : (uploads : Numbered UploadRow) (wants : Numbered Want) → AreApart uploads
    → IsAscending (λ r s. is_eq (request_order r s) ≡ false) (map (request_row wants) (filter (λ x. not (has_place x.1)) uploads))
requests_apart uploads wants apart =
    ascending-map (λ (r s : Request). is_eq (request_order r s) ≡ false) (request_row wants) (filter (λ x. not (has_place x.1)) uploads) (signs_apart uploads apart)

-- if no upload waits, no row is without a place
pub none_asked : (b : Bool) (uploads : Numbered UploadRow) (wants : Numbered Want) (arrived : List Arrived) (awaited : List Awaited) → awaited ≡ []
    → MatchBool b (filter (λ x. not (has_place x.1)) uploads ≡ []) (filter (λ x. not (has_place x.1)) uploads ≡ [] → ⊥)
    → MatchBool b (AreAsked uploads wants arrived awaited) (AreAsked uploads wants arrived awaited → ⊥)
none_asked true uploads wants arrived awaited none e =
    IsPermutation-same _ _ (ap (map (request_row wants)) e ∙ sym (ap (λ (l : List Awaited). map (request_among (map printed arrived)) (map awaited_view l)) none))
none_asked false uploads wants arrived awaited none some = λ same.
    let left = filter (λ x. not (has_place x.1)) uploads in
    let many : length (map (request_among (map printed arrived)) (map awaited_view awaited)) ≡ length (map (request_row wants) left) = length_permutation _ _ same in
    let nil : length (map (request_among (map printed arrived)) (map awaited_view awaited)) ≡ 0 = ap (λ (l : List Awaited). length (map (request_among (map printed arrived)) (map awaited_view l))) none in
    some (nil_from_length left (omega (arith, many, nil, length-map left (request_row wants))))
