-- What the uploads that wait ask for, and what an arrival makes of it.
use Rattle.std.proofs.Common.{◌≡◌, ◌≢◌, Bool, true, false, not, ◌&&◌, ◌||◌, cond, if◌then◌else◌, nat_eq, List, [], ◌∷◌, ◌++◌, map, filter, Option, Some, None, option_map, is_some, IsTrue, Decides, bytes_eq, refl, sym, ap, ap₂, subst, ◌∙◌, append-nil, inl, inr}
use Rattle.std.specs.List.{AllByRecursion, list_any, cons_option}
use Rattle.std.specs.Result.{result_ok}
use Rattle.std.proofs.lemmas.Bool.{and_right, false_from_ne_true, or_cases, or_left}
use Rattle.std.proofs.lemmas.Bool.Decides.{Decides-and}
use Rattle.std.proofs.lemmas.List.{map-append}
use Rattle.std.proofs.lemmas.List.Elements.{All-from_recursion, filter-append, filter_map-append, recursion_from_All}
use Rattle.std.proofs.lemmas.List.Folds.{list_any-append}
use Rattle.std.proofs.lemmas.Slice.Eq.{bytes_eq-Decides}
use Rattle.std.specs.List.Sorted.{IsPermutation}
use Rattle.std.proofs.Math.Bool.{or-false}
use Rattle.sqlite_keyed.specs.Lists.{sort_by as sorted_by}
use Rattle.sqlite_keyed.proofs.ListLemmas.{map-map, map_same}
use Rattle.sqlite_keyed.proofs.SortLemmas.{sort_by-map}
use Rattle.records.specs.Records.{changes_in}
use Rattle.records.specs.Values.{ChangesValue}
use Rattle.sums.specs.Prints.{print as print_of, same_print}
use Rattle.sums.specs.declared.entries.Entry.{Entry}
use Rattle.book.specs.Book.{Candidate, at_latest, candidate_of, candidates, has_arrival, is_body_of, is_judged, is_same_pair, is_there, with_arrival}
use Rattle.sums.specs.FileNames.{is_changes_name}
use Rattle.sums.proofs.Words.{list_any-map}
use Rattle.book.specs.Keeping.{sign_of, sign_on}
use Rattle.book.specs.declared.arrival.Arrival.{Arrival}
use Rattle.book.specs.declared.change.Judgement.{Judgement}
use Rattle.tables.specs.Rows.{Numbered, Tables, rows_of}
use Rattle.tables.specs.declared.rows.UploadRow.{UploadRow}
use Rattle.tables.specs.declared.rows.Want.{Want}
use Rattle.suites.proofs.ListTests.{same_tests, same_any, list_any-filter}
use Rattle.tables_meaning.specs.Kept.{AreUploads, Request, arrivals_in, request_of, sign_in, want_order, wanted, wants_in}
use Rattle.tables_meaning.proofs.Searches.{all_of_rows, all_in_rows, pairs_of_rows, pairs_in_rows, any_weaker}
use Rattle.tables_meaning.proofs.WantLemmas.{Sign, is_sign, is_sign-Decides, is_sign-turned, AreRows, is_waiting, marked_entry, marked_request, request}

-- ---- the uploads as rows and requests

-- what the uploads that wait ask for
abbrev pub requests : List Arrival → List Judgement → List Request
requests arrivals judged = map (request_of arrivals) (filter (λ c. not (is_judged judged c)) (candidates arrivals))

pub rows_from_uploads : (t : Tables) (judged : List Judgement) → AreUploads t judged → AreRows t.uploads (rows_of t.wants) judged (requests (arrivals_in t) judged)
unfolding wants_in
rows_from_uploads t judged are = record {
  waiting = are.waiting;
  owned = recursion_from_All (λ w. IsTrue (list_any (λ x. nat_eq x.0 w.upload && not (is_some x.1.place)) t.uploads)) (rows_of t.wants) are.owned;
  unjudged = all_of_rows (λ u. u.place ≡ None → u.verdict ≡ None) t.uploads are.unjudged;
  places = are.places;
  from_one = all_of_rows (λ u. u.place ≢ Some 0) t.uploads are.from_one;
  placed_apart = pairs_of_rows (λ u v. IsTrue (is_some u.place) → u.place ≢ v.place) t.uploads are.placed_apart;
  apart = pairs_of_rows (λ u v. sign_in u ≢ sign_in v) t.uploads are.apart;
}

-- tables that have rows of this form
pub record HasRowsOf (t : Tables) (judged : List Judgement) : Type 0 where
  pub uploads : Numbered UploadRow
  pub wants : List Want
  pub asked : List Request
  pub are : AreRows uploads wants judged asked
  pub uploads_are : t.uploads ≡ uploads
  pub wants_are : rows_of t.wants ≡ wants
  pub asked_are : requests (arrivals_in t) judged ≡ asked

pub uploads_from_rows : (t : Tables) (judged : List Judgement) → HasRowsOf t judged → AreUploads t judged
unfolding wants_in
uploads_from_rows t judged h =
    let one : AreRows t.uploads h.wants judged h.asked = subst (λ us. AreRows us h.wants judged h.asked) (sym h.uploads_are) h.are in
    let two : AreRows t.uploads (rows_of t.wants) judged h.asked = subst (λ ws. AreRows t.uploads ws judged h.asked) (sym h.wants_are) one in
    record {
      waiting = subst (IsPermutation (map (request (rows_of t.wants)) (filter is_waiting t.uploads))) (sym h.asked_are) two.waiting;
      owned = All-from_recursion (λ w. IsTrue (list_any (λ x. nat_eq x.0 w.upload && not (is_some x.1.place)) t.uploads)) (rows_of t.wants) two.owned;
      unjudged = all_in_rows (λ u. u.place ≡ None → u.verdict ≡ None) t.uploads two.unjudged;
      places = two.places;
      from_one = all_in_rows (λ u. u.place ≢ Some 0) t.uploads two.from_one;
      placed_apart = pairs_in_rows (λ u v. IsTrue (is_some u.place) → u.place ≢ v.place) t.uploads two.placed_apart;
      apart = pairs_in_rows (λ u v. sign_in u ≢ sign_in v) t.uploads two.apart;
    }

-- ---- one more arrival

same_candidates : (a : Arrival) (arrivals : List Arrival) → candidates (map (λ b. if is_same_pair a b then at_latest a.moment b else b) arrivals) ≡ candidates arrivals
unfolding candidate_of
same_candidates a [] = refl
same_candidates a (b ∷ arrivals) =
    ap₂ cons_option (elim (is_same_pair a b) as (λ t. candidate_of (cond t (at_latest a.moment b) b) ≡ candidate_of b) [ true ↦ refl | false ↦ refl ])
    (same_candidates a arrivals)

-- a pair that is new may be one more candidate
pub candidates_with : (arrivals : List Arrival) (a : Arrival) → candidates (with_arrival arrivals a) ≡ candidates arrivals ++ cond (has_arrival arrivals a) [] (cons_option (candidate_of a) [])
unfolding with_arrival
candidates_with arrivals a =
    elim (has_arrival arrivals a) as (λ t. candidates (if t then map (λ b. if is_same_pair a b then at_latest a.moment b else b) arrivals else arrivals ++ a ∷ [])
    ≡ candidates arrivals ++ cond t [] (cons_option (candidate_of a) [])) [
      | true ↦ same_candidates a arrivals ∙ sym (append-nil (candidates arrivals))
      | false ↦ filter_map-append candidate_of arrivals (a ∷ [])
    ]

same_pair-Decides : (a b : Arrival) → Decides (is_same_pair a b) ((a.name ≡ b.name) × (a.body ≡ b.body))
unfolding is_same_pair
same_pair-Decides a b = Decides-and (bytes_eq a.name b.name) (bytes_eq a.body b.body) (bytes_eq-Decides a.name b.name) (bytes_eq-Decides a.body b.body)

-- the entry is that of an arrival of this name and print
body_sign : (e : Entry) (a : Arrival) → is_body_of e a ≡ is_sign (a.name, print_of a.body) (e.name, e.print)
unfolding is_body_of
body_sign e a = is_sign-turned (e.name, e.print) (a.name, print_of a.body)

same_body : (e : Entry) (a b : Arrival) → a.name ≡ b.name → a.body ≡ b.body → is_body_of e a ≡ is_body_of e b
unfolding is_body_of
same_body e a b names bodies = ap₂ (λ n body. bytes_eq n e.name && same_print (print_of body) e.print) names bodies

pub there_with : (arrivals : List Arrival) (a : Arrival) (e : Entry) → is_there (with_arrival arrivals a) e ≡ is_there arrivals e || is_body_of e a
unfolding is_there with_arrival has_arrival
there_with arrivals a e = go (has_arrival arrivals a) refl
  where
    later : (b : Arrival) (t : Bool) → is_body_of e (cond t (at_latest a.moment b) b) ≡ is_body_of e b
    later b true = same_body e (at_latest a.moment b) b refl refl
    later b false = refl

    known : has_arrival arrivals a ≡ true → list_any (is_body_of e) arrivals ≡ list_any (is_body_of e) arrivals || is_body_of e a
    known h =
        same_tests (list_any (is_body_of e) arrivals) (list_any (is_body_of e) arrivals || is_body_of e a) (or_left (list_any (is_body_of e) arrivals) (is_body_of e a))
        (λ k. elim (or_cases (list_any (is_body_of e) arrivals) (is_body_of e a) k) [
          | inl f ↦ f
          | inr f ↦ any_weaker (is_same_pair a) (is_body_of e) (λ b t. let same = (same_pair-Decides a b).0 t in sym (same_body e a b same.0 same.1) ∙ f) arrivals h
        ])

    go : (t : Bool) → has_arrival arrivals a ≡ t
        → list_any (is_body_of e) (if t then map (λ b. if is_same_pair a b then at_latest a.moment b else b) arrivals else arrivals ++ a ∷ []) ≡ list_any (is_body_of e) arrivals || is_body_of e a
    go true h =
        list_any-map (λ b. if is_same_pair a b then at_latest a.moment b else b) (is_body_of e) arrivals
        ∙ same_any (λ b. is_body_of e (if is_same_pair a b then at_latest a.moment b else b)) (is_body_of e) (λ b. later b (is_same_pair a b)) arrivals
        ∙ known h
    go false h = list_any-append (is_body_of e) arrivals (a ∷ []) ∙ ap (λ b. list_any (is_body_of e) arrivals || b) (sym (sym (or-false (is_body_of e a))))

-- the sign of an arrival
abbrev pub sign_at : Arrival → Sign
sign_at a = (a.name, print_of a.body)

pub request_with : (arrivals : List Arrival) (a : Arrival) (c : Candidate) → request_of (with_arrival arrivals a) c ≡ marked_request (sign_at a) (request_of arrivals c)
request_with arrivals a c =
    ap (λ l. (sign_of c, l))
    (ap (sorted_by want_order)
    (map_same (wanted (with_arrival arrivals a)) (λ e. marked_entry (sign_at a) (wanted arrivals e)) (λ e. ap (λ h. (e.name, e.print, h)) (there_with arrivals a e ∙ ap (λ b. is_there arrivals e || b) (body_sign e a))) c.changes.entries
    ∙ sym (map-map (marked_entry (sign_at a)) (wanted arrivals) c.changes.entries))
    ∙ sort_by-map want_order (marked_entry (sign_at a)) (map (wanted arrivals) c.changes.entries))

-- ---- which requests wait after an arrival

-- bodies of the print of this arrival are its body
abbrev pub IsAlone : List Arrival → Arrival → Type 0
IsAlone arrivals a = AllByRecursion (λ b. print_of b.body ≡ print_of a.body → b.body ≡ a.body) arrivals

module _ (a : Arrival) (c : Candidate) (is : candidate_of a ≡ Some c) where
  made_of : (b : Arrival) (d : Candidate) → candidate_of b ≡ Some d → (d.name ≡ b.name) × (d.body ≡ b.body)
  unfolding candidate_of
  made_of b d e = go (is_changes_name b.name) (result_ok (changes_in b.body)) e
    where
      go : (t : Bool) (o : Option ChangesValue) → (if t then option_map (λ v. record { name = b.name; body = b.body; changes = v }) o else None) ≡ Some d → (d.name ≡ b.name) × (d.body ≡ b.body)
      go true (Some v) f = let k : d ≡ record { name = b.name; body = b.body; changes = v } = cc in (ap (λ x. x.name) k, ap (λ x. x.body) k)
      go true None f = cc
      go false o f = cc

  pub sign_made : (b : Arrival) (d : Candidate) → candidate_of b ≡ Some d → sign_of d ≡ sign_at b
  sign_made b d e = let made = made_of b d e in ap₂ (λ n body. (n, print_of body)) made.0 made.1

  -- an arrival with this name and body is this candidate
  same_made : (b : Arrival) → a.name ≡ b.name → a.body ≡ b.body → candidate_of b ≡ Some c
  unfolding candidate_of
  same_made b names bodies =
      ap₂ (λ n body. if is_changes_name n then option_map (λ (v : ChangesValue). record { name = n; body = body; changes = v }) (result_ok (changes_in body)) else None) (sym names) (sym bodies) ∙ is

  -- the sign is that of a candidate exactly if the pair arrived
  pub sign_arrived : (arrivals : List Arrival) → IsAlone arrivals a → list_any (λ d. is_sign (sign_at a) (sign_of d)) (candidates arrivals) ≡ has_arrival arrivals a
  unfolding has_arrival
  sign_arrived [] alone = refl
  sign_arrived (b ∷ arrivals) alone = go (candidate_of b) refl (sign_arrived arrivals alone.1)
    where
      same : (d : Candidate) → candidate_of b ≡ Some d → is_sign (sign_at a) (sign_of d) ≡ is_same_pair a b
      same d e =
          same_tests (is_sign (sign_at a) (sign_of d)) (is_same_pair a b)
          (λ t. let sign = sym (sign_made b d e) ∙ (is_sign-Decides (sign_at a) (sign_of d)).0 t in
          (same_pair-Decides a b).1 (sym (ap (λ r. r.0) sign), sym (alone.0 (ap (λ r. r.1) sign))))
          (λ t. let pair = (same_pair-Decides a b).0 t in
          (is_sign-Decides (sign_at a) (sign_of d)).1 (sign_made b d e ∙ ap₂ (λ n body. (n, print_of body)) (sym pair.0) (sym pair.1)))

      go : (o : Option Candidate) → candidate_of b ≡ o → list_any (λ d. is_sign (sign_at a) (sign_of d)) (candidates arrivals) ≡ list_any (is_same_pair a) arrivals
          → list_any (λ d. is_sign (sign_at a) (sign_of d)) (cons_option o (candidates arrivals)) ≡ is_same_pair a b || list_any (is_same_pair a) arrivals
      go None e more =
          more ∙ ap (λ t. t || list_any (is_same_pair a) arrivals)
          (sym (false_from_ne_true (is_same_pair a b) (λ t. let pair = (same_pair-Decides a b).0 t in let k = sym e ∙ same_made b pair.0 pair.1 in cc)))
      go (Some d) e more = ap₂ (λ p q. p || q) (same d e) more

  -- a verdict on its sign is one on it
  pub judged_by_sign : (judged : List Judgement) → list_any (λ j. is_sign (sign_at a) (sign_on j)) judged ≡ is_judged judged c
  unfolding is_judged
  judged_by_sign judged = ap (λ s. list_any (λ j. is_sign s (sign_on j)) judged) (sym (sign_made a c is))

  judged_alike : (judged : List Judgement) (d : Candidate) → sign_of d ≡ sign_of c → is_judged judged d ≡ is_judged judged c
  unfolding is_judged
  judged_alike judged d e = ap (λ s. list_any (λ j. is_sign s (sign_on j)) judged) e

  -- if the candidate is not judged, its sign is asked for exactly if the pair arrived
  pub sign_asked : (arrivals : List Arrival) (judged : List Judgement) → IsAlone arrivals a → is_judged judged c ≡ false
      → list_any (λ r. is_sign (sign_at a) r.0) (requests arrivals judged) ≡ has_arrival arrivals a
  sign_asked arrivals judged alone waits =
      list_any-map (request_of arrivals) (λ r. is_sign (sign_at a) r.0) (filter (λ d. not (is_judged judged d)) (candidates arrivals))
      ∙ list_any-filter (λ d. is_sign (sign_at a) (sign_of d)) (λ d. not (is_judged judged d)) (candidates arrivals)
      ∙ same_any (λ d. not (is_judged judged d) && is_sign (sign_at a) (sign_of d)) (λ d. is_sign (sign_at a) (sign_of d)) (λ d. same d (is_sign (sign_at a) (sign_of d)) refl) (candidates arrivals)
      ∙ sign_arrived arrivals alone
    where
      same : (d : Candidate) (t : Bool) → is_sign (sign_at a) (sign_of d) ≡ t → not (is_judged judged d) && t ≡ t
      same d true e = rw (judged_alike judged d ((is_sign-Decides (sign_at a) (sign_of d)).0 e ∙ sym (sign_made a c is)) ∙ waits)
      same d false e = and_right (not (is_judged judged d)) false refl

-- what waits after an arrival: what waited, marked, and the upload if it is a new one that is not judged
pub requests_with : (arrivals : List Arrival) (a : Arrival) (judged : List Judgement)
    → requests (with_arrival arrivals a) judged
    ≡ map (marked_request (sign_at a)) (requests arrivals judged) ++ map (request_of (with_arrival arrivals a)) (filter (λ c. not (is_judged judged c)) (cond (has_arrival arrivals a) [] (cons_option (candidate_of a) [])))
requests_with arrivals a judged =
    let waits : Candidate → Bool = λ c. not (is_judged judged c) in
    let more = cond (has_arrival arrivals a) [] (cons_option (candidate_of a) []) in
    let ask = request_of (with_arrival arrivals a) in
    ap (λ cs. map ask (filter waits cs)) (candidates_with arrivals a)
    ∙ ap (map ask) (filter-append waits (candidates arrivals) more)
    ∙ map-append ask (filter waits (candidates arrivals)) (filter waits more)
    ∙ ap (λ rs. rs ++ map ask (filter waits more))
    (map_same ask (λ c. marked_request (sign_at a) (request_of arrivals c)) (request_with arrivals a) (filter waits (candidates arrivals))
    ∙ sym (map-map (marked_request (sign_at a)) (request_of arrivals) (filter waits (candidates arrivals))))
