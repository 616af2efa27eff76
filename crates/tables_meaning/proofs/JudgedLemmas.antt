-- Uploads after a judgement.
use Rattle.std.proofs.Common.{◌≡◌, ◌≢◌, ℕ, zero, suc, ◌+◌, ◌<◌, Bool, true, false, not, ◌&&◌, ◌||◌, cond, nat_eq, List, [], ◌∷◌, ◌++◌, map, flat_map, filter, find, length, Contains, Option, Some, None, option_map, slice_get, IsTrue, refl, sym, ap, ap₂, subst, ◌∙◌, arith, true≢false}
use Rattle.std.specs.List.{AllByRecursion, list_any}
use Rattle.std.specs.Option.{option_map_or}
use Rattle.std.proofs.lemmas.List.Folds.{list_any-append, list_any-from_Any}
use Rattle.std.proofs.lemmas.Bool.{and_parts, and_right, both_ways, eq-eqb, eqb-true, false_from_ne_true, ne_eqb, not-true}
use Rattle.std.proofs.lemmas.List.Elements.{filter_passes, recursion_from_All}
use Rattle.sqlite_trees.specs.Tree.{IsAscending}
use Rattle.std.specs.List.Sorted.{IsPermutation}
use Rattle.std.proofs.lemmas.List.Sorted.{IsPermutation-trans}
use Rattle.std.proofs.Math.Bool.{or-false}
use Rattle.sqlite_keyed.specs.Lists.{sort_by as sorted_by}
use Rattle.sqlite_keyed.proofs.ListLemmas.{IsPermutation-filter, IsPermutation-same, all-filter, all_map, all_unmap, all_weaker, ascending-map, ascending_weaker, filter-map, filter-filter, filter_same, map-map}
use Rattle.rules.specs.Verdicts.{number_of}
use Rattle.book.proofs.Finds.{none_is, found_passes}
use Rattle.book.specs.Book.{Candidate, candidates, is_judged}
use Rattle.book.specs.Keeping.{sign_of, sign_on}
use Rattle.book.specs.declared.arrival.Arrival.{Arrival}
use Rattle.book.specs.declared.change.Judgement.{Judgement}
use Rattle.tables.specs.Rows.{Numbered, Rises, Tables, rows_of}
use Rattle.tables.specs.Uploads.{is_judged as has_place, is_upload, with_verdict}
use Rattle.tables.specs.Wants.{is_wanted_by, without_wants}
use Rattle.tables.specs.declared.rows.ArrivalRow.{ArrivalRow}
use Rattle.tables.specs.declared.rows.UploadRow.{UploadRow}
use Rattle.tables.specs.declared.rows.Want.{Want}
use Rattle.suites.proofs.ListTests.{filter_same_on, same_any}
use Rattle.sums.proofs.Words.{list_any-map}
use Rattle.tables_meaning.specs.Kept.{AreNumbered, AreUploads, Request, arrivals_in, bytes_of, is_placed, judged_row, pieces_among, request_of, sign_in, want_order}
use Rattle.tables_meaning.specs.Making.{with_judged}
use Rattle.tables_meaning.proofs.StepLemmas.{rises_changed}
use Rattle.tables_meaning.proofs.RowLists.{found_holds, none_passes, all_filtered}
use Rattle.tables_meaning.proofs.Searches.{all_both, ascending_with, ascending_both, map_same_on, filter_twice, any_weaker, any_is, found_any, some_found}
use Rattle.tables_meaning.proofs.WantLemmas.{Sign, is_sign, is_sign-Decides, is_sign-turned, entry_in, request, is_waiting, waits_as, AreRows, any_waiting}
use Rattle.tables_meaning.proofs.RequestLemmas.{requests, rows_from_uploads, uploads_from_rows}

-- ---- the row of one upload

-- a row beside that of the upload of a name and print
pub record IsOne (s : Sign) (one x : ℕ × UploadRow) : Type 0 where
  pub test : nat_eq x.0 one.0 ≡ is_sign s (sign_in x.1)
  pub same : nat_eq x.0 one.0 ≡ true → x ≡ one

row_of_sign : (s : Sign) (one : ℕ × UploadRow) (uploads : Numbered UploadRow) → Rises uploads → IsAscending (λ x y. sign_in x.1 ≢ sign_in y.1) uploads
    → find (λ x. is_sign s (sign_in x.1)) uploads ≡ Some one → AllByRecursion (IsOne s one) uploads
row_of_sign s one [] rise apart e = tt
row_of_sign s one (x ∷ uploads) rise apart e = go (is_sign s (sign_in x.1)) refl e (row_of_sign s one uploads rise.1 apart.1)
  where
    other : x ≡ one → is_sign s (sign_in x.1) ≡ true → (y : ℕ × UploadRow) → (x.0 < y.0) × (sign_in x.1 ≢ sign_in y.1) → IsOne s one y
    other same t y h =
        let first : x.0 ≡ one.0 = ap (λ z. z.0) same in
        let later = h.0 in
        let apart : nat_eq y.0 one.0 ≡ false = ne_eqb y.0 one.0 (λ q. omega (arith, first, later, q)) in
        record {
          test = apart ∙ sym (false_from_ne_true (is_sign s (sign_in y.1)) (λ u. h.1 ((is_sign-Decides s (sign_in x.1)).0 t ∙ sym ((is_sign-Decides s (sign_in y.1)).0 u))));
          same = λ q. absurd (both_ways _ apart q);
        }

    go : (b : Bool) → is_sign s (sign_in x.1) ≡ b → cond b (Some x) (find (λ y. is_sign s (sign_in y.1)) uploads) ≡ Some one
        → (find (λ y. is_sign s (sign_in y.1)) uploads ≡ Some one → AllByRecursion (IsOne s one) uploads) → AllByRecursion (IsOne s one) (x ∷ uploads)
    go true t f more =
        let same : x ≡ one = cc in (
          record { test = eq-eqb x.0 one.0 (ap (λ y. y.0) same) ∙ sym t; same = λ _. same },
          all_weaker (λ y. (x.0 < y.0) × (sign_in x.1 ≢ sign_in y.1)) (IsOne s one) (other same t) uploads (all_both (λ y. x.0 < y.0) (λ y. sign_in x.1 ≢ sign_in y.1) uploads rise.0 apart.0),
        )
    go false t f more =
        let below : x.0 < one.0 = found_holds (λ y. is_sign s (sign_in y.1)) (λ y. x.0 < y.0) uploads one rise.0 f in
        let apart : nat_eq x.0 one.0 ≡ false = ne_eqb x.0 one.0 (λ q. omega (arith, below, q)) in
        (record { test = apart ∙ sym t; same = λ q. absurd (both_ways _ apart q) }, more f)

-- ---- one row more in the order of judging

-- the rows with the place and the verdict of this number
abbrev pub placed : ℕ → ℕ → ℕ → ℕ × UploadRow → ℕ × UploadRow
placed id place verdict x = cond (nat_eq x.0 id) (x.0, record x.1 { place = Some place; verdict = Some verdict }) x

found_else : (id place verdict m : ℕ) → nat_eq place m ≡ false → (uploads : Numbered UploadRow) → AllByRecursion (λ x. nat_eq x.0 id ≡ true → x.1.place ≡ None) uploads
    → find (is_placed m) (rows_of (map (placed id place verdict) uploads)) ≡ find (is_placed m) (rows_of uploads)
found_else id place verdict m apart [] all = refl
found_else id place verdict m apart (x ∷ uploads) all = go (nat_eq x.0 id) refl (found_else id place verdict m apart uploads all.1)
  where
    go : (b : Bool) → nat_eq x.0 id ≡ b → find (is_placed m) (rows_of (map (placed id place verdict) uploads)) ≡ find (is_placed m) (rows_of uploads)
        → find (is_placed m) (rows_of (cond b (x.0, record x.1 { place = Some place; verdict = Some verdict }) x ∷ map (placed id place verdict) uploads)) ≡ find (is_placed m) (rows_of (x ∷ uploads))
    go true t more = rw (apart, all.0 t) more
    go false t more = ap (cond (is_placed m x.1) (Some x.1)) more

found_now : (id place verdict : ℕ) (row : UploadRow) (uploads : Numbered UploadRow)
    → AllByRecursion (λ x. (is_placed place x.1 ≡ false) × (nat_eq x.0 id ≡ true → record x.1 { place = Some place; verdict = Some verdict } ≡ row)) uploads
    → list_any (λ x. nat_eq x.0 id) uploads ≡ true
    → find (is_placed place) (rows_of (map (placed id place verdict) uploads)) ≡ Some row
found_now id place verdict row [] all h = absurd (true≢false (sym h))
found_now id place verdict row (x ∷ uploads) all h = go (nat_eq x.0 id) refl h (found_now id place verdict row uploads all.1)
  where
    go : (b : Bool) → nat_eq x.0 id ≡ b → b || list_any (λ y. nat_eq y.0 id) uploads ≡ true
        → (list_any (λ y. nat_eq y.0 id) uploads ≡ true → find (is_placed place) (rows_of (map (placed id place verdict) uploads)) ≡ Some row)
        → find (is_placed place) (rows_of (cond b (x.0, record x.1 { place = Some place; verdict = Some verdict }) x ∷ map (placed id place verdict) uploads)) ≡ Some row
    go true t e more = rw (eq-eqb place place refl) (ap Some (all.0.1 t))
    go false t e more = rw all.0.0 (more e)

last_is : {X : Type 0} (xs : List X) (x : X) → slice_get (xs ++ x ∷ []) (length xs) ≡ Some x
last_is [] x = refl
last_is (y ∷ xs) x = last_is xs x

none_at_end : {X : Type 0} (xs : List X) → slice_get xs (length xs) ≡ None
none_at_end [] = refl
none_at_end (x ∷ xs) = none_at_end xs

others_are : {X : Type 0} (xs : List X) (x : X) (n : ℕ) → n ≢ length xs → slice_get (xs ++ x ∷ []) n ≡ slice_get xs n
others_are [] x zero h = absurd (h refl)
others_are [] x (suc n) h = refl
others_are (y ∷ xs) x zero h = refl
others_are (y ∷ xs) x (suc n) h = others_are xs x n (λ e. h (ap suc e))

not_at : (place : ℕ) (u : UploadRow) → is_placed place u ≡ false → u.place ≢ Some place
not_at place u h e = both_ways (is_placed place u) h (rw (e, eq-eqb place place refl))

keeps : (b : Bool) → b ≡ b && not false
keeps true = refl
keeps false = refl

-- the judged upload's row, and the wants of the others
module _ (uploads : Numbered UploadRow) (wants : List Want) (verdicts : List Judgement) (requests : List Request) (rise : Rises uploads)
    (are : AreRows uploads wants verdicts requests) (j : Judgement) (one : ℕ × UploadRow) (found : find (λ x. is_sign (sign_on j) (sign_in x.1)) uploads ≡ Some one)
    (waits : one.1.place ≡ None) where
  abbrev s : Sign
  s = sign_on j

  abbrev place : ℕ
  place = length verdicts + 1

  abbrev turn : ℕ × UploadRow → ℕ × UploadRow
  turn = placed one.0 place (number_of j.verdict)

  abbrev left : List Want
  left = filter (λ w. not (is_wanted_by one.0 w)) wants

  ones : AllByRecursion (IsOne s one) uploads
  ones = row_of_sign s one uploads rise are.apart found

  still_waiting : (x : ℕ × UploadRow) → is_waiting (turn x) ≡ is_waiting x && not (nat_eq x.0 one.0)
  still_waiting x =
      elim (nat_eq x.0 one.0) as (λ b. is_waiting (cond b (x.0, record x.1 { place = Some place; verdict = Some (number_of j.verdict) }) x) ≡ is_waiting x && not b) [
        | true ↦ sym (and_right (is_waiting x) false refl)
        | false ↦ keeps (is_waiting x)
      ]

  -- the wants of another upload stay
  wants_left : (x : ℕ × UploadRow) → nat_eq x.0 one.0 ≡ false → request left (turn x) ≡ request wants x
  wants_left x apart =
      rw apart (ap (λ l. (sign_in x.1, sorted_by want_order (map entry_in l))) (filter-filter (is_wanted_by x.0) (λ w. not (is_wanted_by one.0 w)) (λ w e. implied w e (is_wanted_by one.0 w) refl) wants))
    where
      implied : (w : Want) → is_wanted_by x.0 w ≡ true → (b : Bool) → is_wanted_by one.0 w ≡ b → not b ≡ true
      implied w e true f = absurd (both_ways (nat_eq x.0 one.0) apart (eq-eqb x.0 one.0 (sym (eqb-true w.upload x.0 e) ∙ eqb-true w.upload one.0 f)))
      implied w e false f = refl

  waiting_then : IsPermutation (map (request left) (filter is_waiting (map turn uploads))) (filter (λ r. not (is_sign s r.0)) requests)
  waiting_then =
      let others = filter (λ x. not (nat_eq x.0 one.0)) (filter is_waiting uploads) in
      IsPermutation-trans _ _ _
      (IsPermutation-same _ _
      (ap (map (request left)) (filter-map is_waiting turn uploads ∙ ap (map turn) (filter_same (λ x. is_waiting (turn x)) (λ x. is_waiting x && not (nat_eq x.0 one.0)) still_waiting uploads
      ∙ filter_twice is_waiting (λ x. not (nat_eq x.0 one.0)) uploads))
      ∙ map-map (request left) turn others
      ∙ map_same_on (λ x. request left (turn x)) (request wants) others
      (all_weaker (λ x. not (nat_eq x.0 one.0) ≡ true) (λ x. request left (turn x) ≡ request wants x) (λ x h. wants_left x (not-true (nat_eq x.0 one.0) h)) others
      (recursion_from_All (λ x. not (nat_eq x.0 one.0) ≡ true) others (filter_passes (λ x. not (nat_eq x.0 one.0)) (filter is_waiting uploads))))
      ∙ ap (map (request wants)) (filter_same_on (λ x. not (nat_eq x.0 one.0)) (λ x. not (is_sign s (sign_in x.1))) (filter is_waiting uploads)
      (all-filter (λ x. not (nat_eq x.0 one.0) ≡ not (is_sign s (sign_in x.1))) is_waiting uploads
      (all_weaker (IsOne s one) (λ x. not (nat_eq x.0 one.0) ≡ not (is_sign s (sign_in x.1))) (λ x h. ap not h.test) uploads ones)))
      ∙ sym (filter-map (λ r. not (is_sign s r.0)) (request wants) (filter is_waiting uploads))))
      (IsPermutation-filter (λ r. not (is_sign s r.0)) _ _ are.waiting)

  owned_then : AllByRecursion (λ w. list_any (waits_as w.upload) (map turn uploads) ≡ true) left
  owned_then =
      all_filtered (λ w. list_any (waits_as w.upload) (map turn uploads) ≡ true) (λ w. not (is_wanted_by one.0 w)) wants
      (all_weaker (λ w. list_any (waits_as w.upload) uploads ≡ true) (λ w. not (is_wanted_by one.0 w) ≡ true → list_any (waits_as w.upload) (map turn uploads) ≡ true)
      (λ w h other.
      list_any-map turn (waits_as w.upload) uploads
      ∙ same_any (λ x. waits_as w.upload (turn x)) (waits_as w.upload) (λ x. same w.upload (not-true (nat_eq w.upload one.0) other) x (nat_eq x.0 one.0) refl) uploads
      ∙ h)
      wants are.owned)
    where
      same : (k : ℕ) → nat_eq k one.0 ≡ false → (x : ℕ × UploadRow) (b : Bool) → nat_eq x.0 one.0 ≡ b
          → waits_as k (cond b (x.0, record x.1 { place = Some place; verdict = Some (number_of j.verdict) }) x) ≡ waits_as k x
      same k apart x true e =
          let not_k : nat_eq x.0 k ≡ false = ne_eqb x.0 k (λ q. both_ways (nat_eq k one.0) apart (eq-eqb k one.0 (sym q ∙ eqb-true x.0 one.0 e))) in
          rw not_k
      same k apart x false e = refl

  unjudged_then : AllByRecursion (λ x. x.1.place ≡ None → x.1.verdict ≡ None) (map turn uploads)
  unjudged_then =
      all_map (λ x. x.1.place ≡ None → x.1.verdict ≡ None) turn uploads
      (all_weaker (λ x. x.1.place ≡ None → x.1.verdict ≡ None) (λ x. (turn x).1.place ≡ None → (turn x).1.verdict ≡ None) each uploads are.unjudged)
    where
      each : (x : ℕ × UploadRow) → (x.1.place ≡ None → x.1.verdict ≡ None) → (turn x).1.place ≡ None → (turn x).1.verdict ≡ None
      each x h =
          elim (nat_eq x.0 one.0) as (λ b.
          (cond b (x.0, record x.1 { place = Some place; verdict = Some (number_of j.verdict) }) x).1.place ≡ None
          → (cond b (x.0, record x.1 { place = Some place; verdict = Some (number_of j.verdict) }) x).1.verdict ≡ None) [
            | true ↦ λ e. cc
            | false ↦ h
          ]

  -- no row has the new place
  free : AllByRecursion (λ x. is_placed place x.1 ≡ false) uploads
  free = all_unmap (λ u. is_placed place u ≡ false) (λ x. x.1) uploads (none_passes (is_placed place) (rows_of uploads) (are.places (length verdicts) ∙ ap (option_map (judged_row place)) (none_at_end verdicts)))

  row_is : (x : ℕ × UploadRow) → x ≡ one → record x.1 { place = Some place; verdict = Some (number_of j.verdict) } ≡ judged_row place j
  row_is x same =
      ap (λ (r : Sign). record { name = r.0; print = r.1; place = Some place; verdict = Some (number_of j.verdict) })
      (ap (λ y. sign_in y.1) same ∙ (is_sign-Decides s (sign_in one.1)).0 (found_passes (λ x. is_sign s (sign_in x.1)) uploads one found))

  judged_then : (n : ℕ) → find (is_placed (n + 1)) (rows_of (map turn uploads)) ≡ option_map (judged_row (n + 1)) (slice_get (verdicts ++ j ∷ []) n)
  judged_then n = go (nat_eq n (length verdicts)) refl
    where
      there : list_any (λ x. nat_eq x.0 one.0) uploads ≡ true
      there = found_any (λ x. nat_eq x.0 one.0) (λ x. is_sign s (sign_in x.1)) uploads one found (eq-eqb one.0 one.0 refl)

      go : (b : Bool) → nat_eq n (length verdicts) ≡ b → find (is_placed (n + 1)) (rows_of (map turn uploads)) ≡ option_map (judged_row (n + 1)) (slice_get (verdicts ++ j ∷ []) n)
      go true e =
          subst (λ m. find (is_placed (m + 1)) (rows_of (map turn uploads)) ≡ option_map (judged_row (m + 1)) (slice_get (verdicts ++ j ∷ []) m)) (sym (eqb-true n (length verdicts) e))
          (found_now one.0 place (number_of j.verdict) (judged_row place j) uploads
          (all_both (λ x. is_placed place x.1 ≡ false) (λ x. nat_eq x.0 one.0 ≡ true → record x.1 { place = Some place; verdict = Some (number_of j.verdict) } ≡ judged_row place j) uploads free
          (all_weaker (IsOne s one) (λ x. nat_eq x.0 one.0 ≡ true → record x.1 { place = Some place; verdict = Some (number_of j.verdict) } ≡ judged_row place j) (λ x h t. row_is x (h.same t)) uploads ones)) there
          ∙ ap (option_map (judged_row place)) (sym (last_is verdicts j)))
      go false e =
          found_else one.0 place (number_of j.verdict) (n + 1) (ne_eqb place (n + 1) (λ q. both_ways (nat_eq n (length verdicts)) e (eq-eqb n (length verdicts) (omega (arith, q))))) uploads
          (all_weaker (IsOne s one) (λ x. nat_eq x.0 one.0 ≡ true → x.1.place ≡ None) (λ x h t. ap (λ y. y.1.place) (h.same t) ∙ waits) uploads ones)
          ∙ are.places n
          ∙ ap (option_map (judged_row (n + 1))) (sym (others_are verdicts j n (λ q. both_ways (nat_eq n (length verdicts)) e (eq-eqb n (length verdicts) q))))

  from_one_then : AllByRecursion (λ x. x.1.place ≢ Some 0) (map turn uploads)
  from_one_then =
      all_map (λ x. x.1.place ≢ Some 0) turn uploads
      (all_weaker (λ x. x.1.place ≢ Some 0) (λ x. (turn x).1.place ≢ Some 0) each uploads are.from_one)
    where
      each : (x : ℕ × UploadRow) → x.1.place ≢ Some 0 → (turn x).1.place ≢ Some 0
      each x h =
          elim (nat_eq x.0 one.0) as (λ b. (cond b (x.0, record x.1 { place = Some place; verdict = Some (number_of j.verdict) }) x).1.place ≢ Some 0) [
            | true ↦ λ e. let k : length verdicts + 1 ≡ 0 = cc in omega (arith, k)
            | false ↦ h
          ]

  placed_apart_then : IsAscending (λ x y. IsTrue (has_place x.1) → x.1.place ≢ y.1.place) (map turn uploads)
  placed_apart_then =
      let Old : ℕ × UploadRow → ℕ × UploadRow → Type 0 = λ x y. (IsTrue (has_place x.1) → x.1.place ≢ y.1.place) × (x.0 < y.0) in
      let Free : ℕ × UploadRow → Type 0 = λ x. is_placed place x.1 ≡ false in
      ascending-map (λ x y. IsTrue (has_place x.1) → x.1.place ≢ y.1.place) turn uploads
      (ascending_weaker (λ x y. Old x y × Free x × Free y) (λ x y. IsTrue (has_place (turn x).1) → (turn x).1.place ≢ (turn y).1.place)
      (λ x y h. each x y h.0.0 h.0.1 h.1 h.2 (nat_eq x.0 one.0) (nat_eq y.0 one.0) refl refl) uploads
      (ascending_with Free Old uploads free (ascending_both (λ x y. IsTrue (has_place x.1) → x.1.place ≢ y.1.place) (λ x y. x.0 < y.0) uploads are.placed_apart rise)))
    where
      each : (x y : ℕ × UploadRow) → (IsTrue (has_place x.1) → x.1.place ≢ y.1.place) → x.0 < y.0 → is_placed place x.1 ≡ false → is_placed place y.1 ≡ false
          → (a b : Bool) → nat_eq x.0 one.0 ≡ a → nat_eq y.0 one.0 ≡ b
          → IsTrue (has_place (cond a (x.0, record x.1 { place = Some place; verdict = Some (number_of j.verdict) }) x).1)
          → (cond a (x.0, record x.1 { place = Some place; verdict = Some (number_of j.verdict) }) x).1.place ≢ (cond b (y.0, record y.1 { place = Some place; verdict = Some (number_of j.verdict) }) y).1.place
      each x y old below free_x free_y true true e f = λ t. absurd (let p = eqb-true x.0 one.0 e in let q = eqb-true y.0 one.0 f in omega (arith, p, q, below))
      each x y old below free_x free_y true false e f = λ t q. not_at place y.1 free_y (sym q)
      each x y old below free_x free_y false true e f = λ t q. not_at place x.1 free_x q
      each x y old below free_x free_y false false e f = old

  apart_then : IsAscending (λ x y. sign_in x.1 ≢ sign_in y.1) (map turn uploads)
  apart_then =
      ascending-map (λ x y. sign_in x.1 ≢ sign_in y.1) turn uploads
      (ascending_weaker (λ x y. sign_in x.1 ≢ sign_in y.1) (λ x y. sign_in (turn x).1 ≢ sign_in (turn y).1) (λ x y h e. h (sym (same x) ∙ e ∙ same y)) uploads are.apart)
    where
      same : (x : ℕ × UploadRow) → sign_in (turn x).1 ≡ sign_in x.1
      same x =
          elim (nat_eq x.0 one.0) as (λ b. sign_in (cond b (x.0, record x.1 { place = Some place; verdict = Some (number_of j.verdict) }) x).1 ≡ sign_in x.1) [ true ↦ refl | false ↦ refl ]

  -- The upload has its place and verdict, and wants nothing more.
  pub with_one_judged : AreRows (map turn uploads) left (verdicts ++ j ∷ []) (filter (λ r. not (is_sign s r.0)) requests)
  with_one_judged = record {
    waiting = waiting_then;
    owned = owned_then;
    unjudged = unjudged_then;
    places = judged_then;
    from_one = from_one_then;
    placed_apart = placed_apart_then;
    apart = apart_then;
  }

-- a request has one row, which waits
pub one_waits : (uploads : Numbered UploadRow) (wants : List Want) (verdicts : List Judgement) (requests : List Request) → Rises uploads
    → AreRows uploads wants verdicts requests → (s : Sign) → list_any (λ r. is_sign s r.0) requests ≡ true
    → (one : ℕ × UploadRow) × (find (λ x. is_sign s (sign_in x.1)) uploads ≡ Some one) × (one.1.place ≡ None)
one_waits uploads wants verdicts requests rise are s asked =
    let waiting = any_waiting uploads wants verdicts requests are s ∙ asked in
    let row = some_found (λ x. is_sign s (sign_in x.1)) uploads (any_weaker (λ x. is_waiting x && is_sign s (sign_in x.1)) (λ x. is_sign s (sign_in x.1)) (λ x h. (and_parts (is_waiting x) (is_sign s (sign_in x.1)) h).1) uploads waiting) in
    let ones = row_of_sign s row.0 uploads rise are.apart row.1 in (
      row.0,
      row.1,
      none_is row.0.1.place (not-true (has_place row.0.1)
          (any_is is_waiting (λ x. is_sign s (sign_in x.1)) row.0 uploads (all_weaker (IsOne s row.0) (λ x. is_sign s (sign_in x.1) ≡ true → x ≡ row.0) (λ x h t. h.same (h.test ∙ t)) uploads ones) waiting)),
    )

-- ---- what is asked for

-- one more judgement takes what has its sign from what is asked for
pub requests_judged : (arrivals : List Arrival) (judged : List Judgement) (j : Judgement)
    → requests arrivals (judged ++ j ∷ []) ≡ filter (λ r. not (is_sign (sign_on j) r.0)) (requests arrivals judged)
unfolding is_judged
requests_judged arrivals judged j =
    let before : Candidate → Bool = λ c. not (is_judged judged c) in
    let other : Candidate → Bool = λ c. not (is_sign (sign_on j) (sign_of c)) in
    ap (map (request_of arrivals)) (filter_same (λ c. not (is_judged (judged ++ j ∷ []) c)) (λ c. before c && other c) each (candidates arrivals) ∙ filter_twice before other (candidates arrivals))
    ∙ sym (filter-map (λ r. not (is_sign (sign_on j) r.0)) (request_of arrivals) (filter before (candidates arrivals)))
  where
    neither : (a b : Bool) → not (a || b) ≡ not a && not b
    neither true b = refl
    neither false b = refl

    each : (c : Candidate) → not (list_any (λ i. is_sign (sign_of c) (sign_on i)) (judged ++ j ∷ [])) ≡ not (list_any (λ i. is_sign (sign_of c) (sign_on i)) judged) && not (is_sign (sign_on j) (sign_of c))
    each c =
        ap not (list_any-append (λ i. is_sign (sign_of c) (sign_on i)) judged (j ∷ [])
        ∙ ap (λ b. list_any (λ i. is_sign (sign_of c) (sign_on i)) judged || b) (sym (sym (or-false (is_sign (sign_of c) (sign_on j)))) ∙ is_sign-turned (sign_of c) (sign_on j)))
        ∙ neither (list_any (λ i. is_sign (sign_of c) (sign_on i)) judged) (is_sign (sign_on j) (sign_of c))

-- a waiting upload's sign is asked for
pub asked_if_waiting : (arrivals : List Arrival) (judged : List Judgement) (s : Sign) → Contains (map sign_of (filter (λ c. not (is_judged judged c)) (candidates arrivals))) s
    → list_any (λ r. is_sign s r.0) (requests arrivals judged) ≡ true
asked_if_waiting arrivals judged s h =
    let waiting = filter (λ c. not (is_judged judged c)) (candidates arrivals) in
    list_any-map (request_of arrivals) (λ r. is_sign s r.0) waiting
    ∙ sym (list_any-map sign_of (is_sign s) waiting)
    ∙ list_any-from_Any (is_sign s) (map sign_of waiting) (h.0, s, h.1, h.2, (is_sign-Decides s s).1 refl)

-- ---- the tables after a judgement

-- the tables other than those of uploads and of their wants are as before
pub record OthersStay (old new : Tables) : Type 0 where
  pub meta : new.meta ≡ old.meta
  pub bodies : new.bodies ≡ old.bodies
  pub pieces : new.pieces ≡ old.pieces
  pub arrivals : new.arrivals ≡ old.arrivals
  pub items : new.items ≡ old.items
  pub refs : new.refs ≡ old.refs
  pub files : new.files ≡ old.files
  pub texts : new.texts ≡ old.texts
  pub dates : new.dates ≡ old.dates

pub judged_others : (place : ℕ) (j : Judgement) (t : Tables) → OthersStay t (with_judged place j t)
unfolding with_judged
judged_others place j t =
    elim (find (λ x. is_upload j.name j.print x.1) t.uploads) as (λ o. OthersStay t (option_map_or (λ x. without_wants x.0 (with_verdict x.0 place (number_of j.verdict) t)) o t)) [
      | None ↦ record { meta = refl; bodies = refl; pieces = refl; arrivals = refl; items = refl; refs = refl; files = refl; texts = refl; dates = refl }
      | Some x ↦ record { meta = refl; bodies = refl; pieces = refl; arrivals = refl; items = refl; refs = refl; files = refl; texts = refl; dates = refl }
    ]

-- what has arrived depends on the arrivals and the pieces
pub same_arrivals : (old new : Tables) → new.arrivals ≡ old.arrivals → new.pieces ≡ old.pieces → arrivals_in new ≡ arrivals_in old
unfolding arrivals_in bytes_of
same_arrivals old new arrivals pieces =
    ap₂ (λ rows parts. map (λ (a : ArrivalRow). record { name = a.name; body = flat_map (λ p. p.bytes) (pieces_among (rows_of parts) a.body); moment = a.moment }) (rows_of rows)) arrivals pieces

pub arrivals_judged : (place : ℕ) (j : Judgement) (t : Tables) → arrivals_in (with_judged place j t) ≡ arrivals_in t
arrivals_judged place j t = let h = judged_others place j t in same_arrivals t (with_judged place j t) h.arrivals h.pieces

pub uploads_rise : (place : ℕ) (j : Judgement) (t : Tables) → Rises t.uploads → Rises (with_judged place j t).uploads
unfolding with_judged
uploads_rise place j t rise = go (find (λ x. is_upload j.name j.print x.1) t.uploads)
  where
    go : (o : Option (ℕ × UploadRow)) → Rises (option_map_or (λ x. without_wants x.0 (with_verdict x.0 place (number_of j.verdict) t)) o t).uploads
    go None = rise
    go (Some one) = rises_changed (λ x. nat_eq x.0 one.0) (λ (u : UploadRow). record u { place = Some place; verdict = Some (number_of j.verdict) }) t.uploads rise

pub judged_numbered : (place : ℕ) (j : Judgement) (t : Tables) → AreNumbered t → AreNumbered (with_judged place j t)
judged_numbered place j t h =
    let stay = judged_others place j t in
    record {
      bodies = subst Rises (sym stay.bodies) h.bodies;
      arrivals = subst Rises (sym stay.arrivals) h.arrivals;
      uploads = uploads_rise place j t h.uploads;
      items = subst Rises (sym stay.items) h.items;
    }

judged_row_found : (place : ℕ) (j : Judgement) (t : Tables) (one : ℕ × UploadRow) → find (λ x. is_upload j.name j.print x.1) t.uploads ≡ Some one
    → with_judged place j t ≡ without_wants one.0 (with_verdict one.0 place (number_of j.verdict) t)
unfolding with_judged
judged_row_found place j t one e = ap (λ o. option_map_or (λ x. without_wants x.0 (with_verdict x.0 place (number_of j.verdict) t)) o t) e

-- The uploads after a judgement of one whose sign is asked for.
pub judged_if_asked : (t : Tables) (judged : List Judgement) (j : Judgement) → Rises t.uploads → AreUploads t judged
    → list_any (λ r. is_sign (sign_on j) r.0) (requests (arrivals_in t) judged) ≡ true
    → AreUploads (with_judged (length judged + 1) j t) (judged ++ j ∷ [])
judged_if_asked t judged j rise are asked =
    let rows = rows_from_uploads t judged are in
    let wants = rows_of t.wants in
    let rs = requests (arrivals_in t) judged in
    let one = one_waits t.uploads wants judged rs rise rows (sign_on j) asked in
    let new = with_judged (length judged + 1) j t in
    let is = judged_row_found (length judged + 1) j t one.0 one.1 in
    uploads_from_rows new (judged ++ j ∷ []) (record {
      uploads = map (placed one.0.0 (length judged + 1) (number_of j.verdict)) t.uploads;
      wants = filter (λ w. not (is_wanted_by one.0.0 w)) wants;
      asked = filter (λ r. not (is_sign (sign_on j) r.0)) rs;
      are = with_one_judged t.uploads wants judged rs rise rows j one.0 one.1 one.2;
      uploads_are = ap (λ x. x.uploads) is;
      wants_are = ap (λ x. rows_of x.wants) is ∙ sym (filter-map (λ w. not (is_wanted_by one.0.0 w)) (λ x. x.1) t.wants);
      asked_are = ap (λ l. requests l (judged ++ j ∷ [])) (arrivals_judged (length judged + 1) j t) ∙ requests_judged (arrivals_in t) judged j;
    })

-- The uploads after a judgement of one that waits.
pub judged_uploads : (t : Tables) (judged : List Judgement) (j : Judgement) → AreNumbered t → AreUploads t judged
    → Contains (map sign_of (filter (λ c. not (is_judged judged c)) (candidates (arrivals_in t)))) (sign_on j)
    → AreUploads (with_judged (length judged + 1) j t) (judged ++ j ∷ [])
judged_uploads t judged j numbered are waits = judged_if_asked t judged j numbered.uploads are (asked_if_waiting (arrivals_in t) judged (sign_on j) waits)
