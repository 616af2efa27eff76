-- The uploads that are not judged, as the book has them and as the tables do, in the same order.
use Rattle.std.proofs.Common.{◌≡◌, ◌≢◌, true, false, not, if◌then◌else◌, List, [], ◌∷◌, map, filter, refl, ap, sym, ◌∙◌}
use Rattle.std.specs.List.{AllPairs}
use Rattle.std.specs.Ordering.{is_eq, is_gt}
use Rattle.std.specs.declared.cmp.Ordering.{Ordering}
use Rattle.std.specs.declared.cmp.Ordering.TheVariants.{Less, Equal, Greater}
use Rattle.std.proofs.lemmas.Cmp.{on_total}
use Rattle.book.specs.Book.{Book, Candidate, candidate_order, candidates, in_order, is_judged, judging_order, put_in_order, unjudged}
use Rattle.book.specs.Keeping.{sign_of}
use Rattle.sqlite_trees.specs.Tree.{IsAscending}
use Rattle.sqlite_keyed.proofs.ListLemmas.{ascending-filter, ascending-map, ascending_weaker}
use Rattle.tables.specs.Rows.{Numbered, Rises, Tables, rows_of}
use Rattle.tables.specs.Uploads.{is_judged as has_place}
use Rattle.tables.specs.declared.rows.UploadRow.{UploadRow}
use Rattle.tables_meaning.specs.Kept.{AreUploads, Request, arrivals_in, request_in, request_of, sign_in}
use Rattle.tables_meaning.specs.Reads.{put_by, row_order, sorted_by, wanting, wanting_rows}
use Rattle.tables_meaning.proofs.Orders.{permuted_same}
use Rattle.tables_meaning.proofs.Searches.{pairs_of_rows}
use Rattle.tables_meaning.proofs.SignOrder.{judging_order-IsAntisymmetric, judging_order_total}
use Rattle.tables_meaning.proofs.WantingLemmas.{wanting_unjudged}

-- one more in its place, under a map that keeps the order
map-put_by : {X Y : Type 0} (f : X → Y) (o : X → X → Ordering) (p : Y → Y → Ordering) → ((x y : X) → o x y ≡ p (f x) (f y)) → (x : X) (ys : List X)
    → map f (put_by o x ys) ≡ put_by p (f x) (map f ys)
map-put_by f o p same x [] = refl
map-put_by f o p same x (y ∷ ys) =
    ap (λ r. map f (if is_gt r then y ∷ put_by o x ys else x ∷ y ∷ ys)) (same x y)
    ∙ elim (is_gt (p (f x) (f y))) as (λ b. map f (if b then y ∷ put_by o x ys else x ∷ y ∷ ys) ≡ (if b then f y ∷ put_by p (f x) (map f ys) else f x ∷ f y ∷ map f ys)) [
      | true ↦ ap (λ zs. f y ∷ zs) (map-put_by f o p same x ys)
      | false ↦ refl
    ]

pub map-sorted_by : {X Y : Type 0} (f : X → Y) (o : X → X → Ordering) (p : Y → Y → Ordering) → ((x y : X) → o x y ≡ p (f x) (f y)) → (xs : List X)
    → map f (sorted_by o xs) ≡ sorted_by p (map f xs)
map-sorted_by f o p same [] = refl
map-sorted_by f o p same (x ∷ xs) = map-put_by f o p same x (sorted_by o xs) ∙ ap (put_by p (f x)) (map-sorted_by f o p same xs)

put_in_order-put_by : (c : Candidate) (cs : List Candidate) → put_in_order c cs ≡ put_by candidate_order c cs
put_in_order-put_by c [] = refl
put_in_order-put_by c (d ∷ ds) = ap (λ r. if is_gt (candidate_order c d) then d ∷ r else c ∷ d ∷ ds) (put_in_order-put_by c ds)

in_order-sorted_by : (cs : List Candidate) → in_order cs ≡ sorted_by candidate_order cs
in_order-sorted_by [] = refl
in_order-sorted_by (c ∷ cs) = put_in_order-put_by c (in_order cs) ∙ ap (put_by candidate_order c) (in_order-sorted_by cs)

order_of_signs : (c d : Candidate) → candidate_order c d ≡ judging_order (sign_of c) (sign_of d)
order_of_signs c d = refl

-- no two uploads that wait tie
pub signs_apart : (uploads : Numbered UploadRow) → AllPairs (λ u v. sign_in u ≢ sign_in v) (rows_of uploads)
    → IsAscending (λ x y. is_eq (judging_order (sign_in x.1) (sign_in y.1)) ≡ false) (filter (λ x. not (has_place x.1)) uploads)
signs_apart uploads apart =
    ascending-filter (λ x y. is_eq (judging_order (sign_in x.1) (sign_in y.1)) ≡ false) (λ x. not (has_place x.1)) uploads
    (ascending_weaker (λ x y. sign_in x.1 ≢ sign_in y.1) (λ x y. is_eq (judging_order (sign_in x.1) (sign_in y.1)) ≡ false)
    (λ x y apart. untied (judging_order (sign_in x.1) (sign_in y.1)) (λ e. apart (judging_order-IsAntisymmetric (sign_in x.1) (sign_in y.1) e))) uploads
    (pairs_of_rows (λ u v. sign_in u ≢ sign_in v) uploads apart))
  where
    untied : (r : Ordering) → (r ≡ Equal → ⊥) → is_eq r ≡ false
    untied Less h = refl
    untied Equal h = absurd (h refl)
    untied Greater h = refl

-- the uploads that are not judged are the same in both, in the same order, and want the same
pub unjudged_requests : (t : Tables) (b : Book) → b.arrivals ≡ arrivals_in t → Rises t.uploads → AreUploads t b.judged
    → map (request_in t) (wanting_rows t) ≡ map (request_of b.arrivals) (unjudged b)
unfolding unjudged wanting_rows
unjudged_requests t b same up uploads =
    let by_sign : Request → Request → Ordering = λ r s. judging_order r.0 s.0 in
    let waiting = filter (λ c. not (is_judged b.judged c)) (candidates (arrivals_in t)) in
    map-sorted_by (request_in t) row_order by_sign (λ x y. refl) (wanting t)
    ∙ ap (λ xs. sorted_by by_sign (map (request_in t) xs)) (wanting_unjudged t b.judged up uploads)
    ∙ sym (permuted_same by_sign (on_total (λ (r : Request). r.0) judging_order_total) (map (request_in t) (filter (λ x. not (has_place x.1)) t.uploads)) _
    (ascending-map (λ (r s : Request). is_eq (judging_order r.0 s.0) ≡ false) (request_in t) (filter (λ x. not (has_place x.1)) t.uploads) (signs_apart t.uploads uploads.apart)) uploads.waiting)
    ∙ sym (map-sorted_by (request_of (arrivals_in t)) candidate_order by_sign order_of_signs waiting)
    ∙ ap (map (request_of (arrivals_in t))) (sym (in_order-sorted_by waiting))
    ∙ ap (λ arrivals. map (request_of arrivals) (in_order (filter (λ c. not (is_judged b.judged c)) (candidates arrivals)))) (sym same)
