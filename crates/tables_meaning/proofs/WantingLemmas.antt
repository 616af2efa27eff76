-- The uploads that want something are those that are not judged, and are found one by one.
use Rattle.std.proofs.Common.{◌≡◌, ℕ, ◌<◌, ◌≤◌, Bool, true, false, not, ◌&&◌, cond, nat_eq, List, [], ◌∷◌, map, filter, find, length, Option, Some, None, option_map, IsTrue, Result, Ok, Err, refl, sym, ap, subst, ◌∙◌, arith, true≢false, inl, inr}
use Rattle.std.specs.Prelude.{nat_lt, if◌then◌else◌}
use Rattle.std.specs.List.{AllByRecursion, cons_option, list_any}
use Rattle.std.specs.Result.{result_ok}
use Rattle.std.proofs.lemmas.Bool.{and_parts, or_cases}
use Rattle.std.proofs.lemmas.Bool.Decides.{nat_tests}
use Rattle.std.proofs.lemmas.List.{length-map}
use Rattle.std.proofs.lemmas.List.Elements.{All-from_recursion, recursion_from_All}
use Rattle.std.proofs.lemmas.List.Sorted.{All-permutation, IsPermutation-sym, length_permutation}
use Rattle.std.proofs.Math.Bool.{and_comm, or-false}
use Rattle.sqlite_keyed.proofs.ListLemmas.{all-filter, all_map, all_unmap, all_weaker, none_counted}
use Rattle.sqlite_keyed.proofs.SortLemmas.{IsPermutation-sort_by}
use Rattle.records.specs.Records.{changes_in}
use Rattle.records.specs.Values.{ChangesValue}
use Rattle.records.specs.declared.fault.RecordFault.{RecordFault}
use Rattle.records.proofs.RecordRead.{changes_of_read}
use Rattle.sums.specs.declared.print.Print.{Print}
use Rattle.book.specs.Book.{Candidate, candidate_of, candidates, is_judged}
use Rattle.sums.specs.FileNames.{is_changes_name}
use Rattle.book.specs.declared.arrival.Arrival.{Arrival}
use Rattle.book.specs.declared.change.Judgement.{Judgement}
use Rattle.tables.specs.Rows.{Numbered, Rises, Tables, rows_of}
use Rattle.tables.specs.Uploads.{is_judged as has_place}
use Rattle.tables.specs.Wants.{IsNextWanting, is_behind, is_wanted_by, wants_behind}
use Rattle.tables.specs.declared.rows.UploadRow.{UploadRow}
use Rattle.tables.specs.declared.rows.Want.{Want}
use Rattle.suites.proofs.ListTests.{same_tests, filter_same_on}
use Rattle.tables_meaning.specs.Kept.{AreUploads, arrivals_in, request_in, request_of, want_order, wanted, wants_in}
use Rattle.tables_meaning.proofs.NumberOrders.{want_order_total}
use Rattle.tables_meaning.specs.Reads.{next_wanting_in, wanting}
use Rattle.tables_meaning.proofs.Searches.{all_both}
use Rattle.tables_meaning.proofs.WantLemmas.{waits_as}

-- ---- one by one

module _ {X : Type 0} where
  -- a row that is found after another has a greater number
  found_above : (id : ℕ) (k : ℕ) (xs : Numbered X) (y : ℕ × X) → AllByRecursion (λ z. k < z.0) xs → find (λ x. nat_eq x.0 id) xs ≡ Some y → k < id
  found_above id k [] y all e = absurd cc
  found_above id k (x ∷ xs) y all e = go (nat_eq x.0 id) refl e (found_above id k xs y all.1)
    where
      go : (b : Bool) → nat_eq x.0 id ≡ b → cond b (Some x) (find (λ z. nat_eq z.0 id) xs) ≡ Some y → (find (λ z. nat_eq z.0 id) xs ≡ Some y → k < id) → k < id
      go true h f more = let same : x.0 ≡ id = grind (arith, nat_tests, h) in omega (arith, same, all.0)
      go false h f more = more f

  -- if no number that passes is less than this one, the row of this number is the first that passes
  first_is : (p : ℕ → Bool) (id : ℕ) → p id ≡ true → ((n : ℕ) → p n ≡ true → id ≤ n) → (xs : Numbered X) → Rises xs → (y : ℕ × X)
      → find (λ x. nat_eq x.0 id) xs ≡ Some y → find (λ x. p x.0) xs ≡ Some y
  first_is p id passes least [] up y e = absurd cc
  first_is p id passes least (x ∷ xs) up y e = go (p x.0) (nat_eq x.0 id) refl refl e (first_is p id passes least xs up.1 y)
    where
      go : (b c : Bool) → p x.0 ≡ b → nat_eq x.0 id ≡ c → cond c (Some x) (find (λ z. nat_eq z.0 id) xs) ≡ Some y
          → (find (λ z. nat_eq z.0 id) xs ≡ Some y → find (λ z. p z.0) xs ≡ Some y) → cond b (Some x) (find (λ z. p z.0) xs) ≡ Some y
      go true true h k f more = f
      go true false h k f more = absurd (let low = least x.0 h in let high = found_above id x.0 xs y up.0 f in omega (arith, low, high))
      go false true h k f more = absurd (let same : x.0 ≡ id = grind (arith, nat_tests, k) in true≢false (sym passes ∙ sym (ap p same) ∙ h))
      go false false h k f more = more f

  none_is : (p : ℕ → Bool) → ((n : ℕ) → p n ≡ true → ⊥) → (xs : Numbered X) → find (λ x. p x.0) xs ≡ None
  none_is p none [] = refl
  none_is p none (x ∷ xs) = go (p x.0) refl (none_is p none xs)
    where
      go : (b : Bool) → p x.0 ≡ b → find (λ z. p z.0) xs ≡ None → cond b (Some x) (find (λ z. p z.0) xs) ≡ None
      go true h more = absurd (none x.0 h)
      go false h more = more

  found_passes : (p : ℕ → Bool) (xs : Numbered X) (y : ℕ × X) → find (λ x. p x.0) xs ≡ Some y → p y.0 ≡ true
  found_passes p [] y e = absurd cc
  found_passes p (x ∷ xs) y e = go (p x.0) refl e (found_passes p xs y)
    where
      go : (b : Bool) → p x.0 ≡ b → cond b (Some x) (find (λ z. p z.0) xs) ≡ Some y → (find (λ z. p z.0) xs ≡ Some y → p y.0 ≡ true) → p y.0 ≡ true
      go true h f more = subst (λ z. p z.0 ≡ true) (let same : x ≡ y = cc in same) h
      go false h f more = more f

  -- those that pass are the first of them, and those that pass after it
  first_then : (p : ℕ → Bool) (q : ℕ → ℕ → Bool) → ((k n : ℕ) → p k ≡ true → q k n ≡ (p n && nat_lt k n)) → (xs : Numbered X) → Rises xs → (y : ℕ × X)
      → find (λ x. p x.0) xs ≡ Some y → filter (λ x. p x.0) xs ≡ y ∷ filter (λ x. q y.0 x.0) xs
  first_then p q behind [] up y e = absurd cc
  first_then p q behind (x ∷ xs) up y e = go (p x.0) refl e (first_then p q behind xs up.1 y)
    where
      and_true : (b : Bool) → b && true ≡ b
      and_true true = refl
      and_true false = refl

      and_false : (b : Bool) → b && false ≡ false
      and_false true = refl
      and_false false = refl

      here : p x.0 ≡ true → x ∷ filter (λ z. p z.0) xs ≡ x ∷ filter (λ z. q x.0 z.0) (x ∷ xs)
      here h =
          let itself : q x.0 x.0 ≡ false = behind x.0 x.0 h ∙ ap (λ b. p x.0 && b) (let no : nat_lt x.0 x.0 ≡ false = grind (arith, nat_tests) in no) ∙ and_false (p x.0) in
          let each = all_weaker (λ z. x.0 < z.0) (λ z. p z.0 ≡ q x.0 z.0)
          (λ z low. sym (behind x.0 z.0 h ∙ ap (λ b. p z.0 && b) (let yes : nat_lt x.0 z.0 ≡ true = grind (arith, nat_tests, low) in yes) ∙ and_true (p z.0))) xs up.0 in
          rw itself (ap (λ zs. x ∷ zs) (filter_same_on (λ z. p z.0) (λ z. q x.0 z.0) xs each))

      go : (b : Bool) → p x.0 ≡ b → cond b (Some x) (find (λ z. p z.0) xs) ≡ Some y
          → (find (λ z. p z.0) xs ≡ Some y → filter (λ z. p z.0) xs ≡ y ∷ filter (λ z. q y.0 z.0) xs)
          → cond b (x ∷ filter (λ z. p z.0) xs) (filter (λ z. p z.0) xs) ≡ y ∷ filter (λ z. q y.0 z.0) (x ∷ xs)
      go true h f more = subst (λ z. x ∷ filter (λ v. p v.0) xs ≡ z ∷ filter (λ v. q z.0 v.0) (x ∷ xs)) (let same : x ≡ y = cc in same) (here h)
      go false h f more =
          let not_behind : q y.0 x.0 ≡ false = behind y.0 x.0 (found_passes p xs y f) ∙ ap (λ b. b && nat_lt y.0 x.0) h in
          rw not_behind (more f)

  none_then : (p : ℕ → Bool) (xs : Numbered X) → find (λ x. p x.0) xs ≡ None → filter (λ x. p x.0) xs ≡ []
  none_then p [] e = refl
  none_then p (x ∷ xs) e = go (p x.0) e (none_then p xs)
    where
      go : (b : Bool) → cond b (Some x) (find (λ z. p z.0) xs) ≡ None → (find (λ z. p z.0) xs ≡ None → filter (λ z. p z.0) xs ≡ []) → cond b (x ∷ filter (λ z. p z.0) xs) (filter (λ z. p z.0) xs) ≡ []
      go true f more = absurd cc
      go false f more = more f

-- the row of the next number that wants something
pub next_one : (t : Tables) (after : Option ℕ) (id : ℕ) (y : ℕ × UploadRow) → Rises t.uploads → IsNextWanting after (rows_of t.wants) (Some id)
    → find (λ x. nat_eq x.0 id) t.uploads ≡ Some y → next_wanting_in t after ≡ Some y
unfolding next_wanting_in
next_one t after id y up next e = first_is (wants_behind after (rows_of t.wants)) id next.one next.first t.uploads up y e

pub no_next : (t : Tables) (after : Option ℕ) → IsNextWanting after (rows_of t.wants) None → next_wanting_in t after ≡ None
unfolding next_wanting_in
no_next t after next = none_is (wants_behind after (rows_of t.wants)) next.first t.uploads

-- the uploads that are left
abbrev pub wanting_behind : Tables → Option ℕ → Numbered UploadRow
wanting_behind t after = filter (λ x. wants_behind after (rows_of t.wants) x.0) t.uploads

later : (after : Option ℕ) (has : Bool) (k n : ℕ) → is_behind after k ≡ true → (nat_lt k n && has) ≡ ((is_behind after n && has) && nat_lt k n)
later None has k n h = and_comm (nat_lt k n) has
later (Some a) has k n h = go (nat_lt k n) (nat_lt a n) has refl refl
  where
    go : (b c d : Bool) → nat_lt k n ≡ b → nat_lt a n ≡ c → (b && d) ≡ ((c && d) && b)
    go true true true e f = refl
    go true true false e f = refl
    go true false d e f = absurd (let no : nat_lt a n ≡ true = grind (arith, nat_tests, e, h) in true≢false (sym no ∙ f))
    go false true true e f = refl
    go false true false e f = refl
    go false false d e f = refl

pub one_less : (t : Tables) (after : Option ℕ) (y : ℕ × UploadRow) → Rises t.uploads → next_wanting_in t after ≡ Some y → wanting_behind t after ≡ y ∷ wanting_behind t (Some y.0)
unfolding next_wanting_in
one_less t after y up e =
    first_then (wants_behind after (rows_of t.wants)) (λ k. wants_behind (Some k) (rows_of t.wants))
    (λ k n h. later after (list_any (is_wanted_by n) (rows_of t.wants)) k n (and_parts (is_behind after k) (list_any (is_wanted_by k) (rows_of t.wants)) h).0) t.uploads up y e

pub none_left : (t : Tables) (after : Option ℕ) → next_wanting_in t after ≡ None → wanting_behind t after ≡ []
unfolding next_wanting_in
none_left t after e = none_then (wants_behind after (rows_of t.wants)) t.uploads e

pub all_left : (t : Tables) → wanting_behind t None ≡ wanting t
unfolding wanting
all_left t = refl

-- ---- those that are not judged

-- a .changes lists some file
lists_some : (text : List ℕ) (c : ChangesValue) → changes_in text ≡ Ok c → 0 < length c.entries
lists_some text c h = (changes_of_read _ text c h).made.entries.listed.count.0

all_list_some : (arrivals : List Arrival) → AllByRecursion (λ c. 0 < length c.changes.entries) (candidates arrivals)
unfolding candidate_of
all_list_some [] = tt
all_list_some (a ∷ arrivals) = go (is_changes_name a.name) (changes_in a.body) refl (all_list_some arrivals)
  where
    go : (b : Bool) (r : Result ChangesValue RecordFault) → changes_in a.body ≡ r → AllByRecursion (λ c. 0 < length c.changes.entries) (candidates arrivals)
        → AllByRecursion (λ c. 0 < length c.changes.entries)
        (cons_option (if b then option_map (λ c. record { name = a.name; body = a.body; changes = c }) (result_ok r) else None) (candidates arrivals))
    go true (Ok c) e more = (lists_some a.body c e, more)
    go true (Err fault) e more = more
    go false r e more = more

some_wanted : (t : Tables) (id : ℕ) → 0 < length (wants_in t id) → list_any (is_wanted_by id) (rows_of t.wants) ≡ true
unfolding wants_in
some_wanted t id h = go (list_any (is_wanted_by id) (rows_of t.wants)) refl
  where
    count : length (wants_in t id) ≡ length (filter (is_wanted_by id) (rows_of t.wants))
    count = length_permutation _ _ (IsPermutation-sym _ _ (IsPermutation-sort_by want_order want_order_total (map (λ (w : Want). (w.name, w.print, w.here)) (filter (is_wanted_by id) (rows_of t.wants))))) ∙ length-map _ _

    go : (b : Bool) → list_any (is_wanted_by id) (rows_of t.wants) ≡ b → b ≡ true
    go true e = refl
    go false e = absurd (let none = none_counted (is_wanted_by id) (rows_of t.wants) ∙ ap not e in grind (arith, nat_tests, none, count, h))

from_filter : {X : Type 0} (P : X → Type 0) (q : X → Bool) (xs : List X) → AllByRecursion P (filter q xs) → AllByRecursion (λ x. q x ≡ true → P x) xs
from_filter P q [] all = tt
from_filter P q (x ∷ xs) all = go (q x) refl all (from_filter P q xs)
  where
    go : (b : Bool) → q x ≡ b → AllByRecursion P (cond b (x ∷ filter q xs) (filter q xs)) → (AllByRecursion P (filter q xs) → AllByRecursion (λ z. q z ≡ true → P z) xs)
        → AllByRecursion (λ z. q z ≡ true → P z) (x ∷ xs)
    go true e all more = (λ _. all.0, more all.1)
    go false e all more = (λ t. absurd (true≢false (sym t ∙ e)), more all)

-- an upload that is not judged wants something
unjudged_want : (t : Tables) (judged : List Judgement) → AreUploads t judged
    → AllByRecursion (λ x. not (has_place x.1) ≡ true → list_any (is_wanted_by x.0) (rows_of t.wants) ≡ true) t.uploads
unjudged_want t judged are =
    let waiting = filter (λ c. not (is_judged judged c)) (candidates (arrivals_in t)) in
    let HasSome : (List ℕ × Print) × List (List ℕ × Print × Bool) → Type 0 = λ r. 0 < length r.1 in
    let asked = all_map HasSome (request_of (arrivals_in t)) waiting
    (all_weaker (λ c. 0 < length c.changes.entries) (λ c. HasSome (request_of (arrivals_in t) c)) (λ c h. subst (λ n. 0 < n) (sym (asked_length c)) h) waiting
    (all-filter (λ c. 0 < length c.changes.entries) (λ c. not (is_judged judged c)) (candidates (arrivals_in t)) (all_list_some (arrivals_in t)))) in
    from_filter (λ x. list_any (is_wanted_by x.0) (rows_of t.wants) ≡ true) (λ x. not (has_place x.1)) t.uploads
    (all_weaker (λ x. 0 < length (wants_in t x.0)) (λ x. list_any (is_wanted_by x.0) (rows_of t.wants) ≡ true) (λ x h. some_wanted t x.0 h) (filter (λ x. not (has_place x.1)) t.uploads)
    (all_unmap HasSome (request_in t) (filter (λ x. not (has_place x.1)) t.uploads)
    (recursion_from_All HasSome _ (All-permutation HasSome _ _ (IsPermutation-sym _ _ are.waiting) (All-from_recursion HasSome _ asked)))))
  where
    asked_length : (c : Candidate) → length (request_of (arrivals_in t) c).1 ≡ length c.changes.entries
    asked_length c = length_permutation _ _ (IsPermutation-sym _ _ (IsPermutation-sort_by want_order want_order_total (map (wanted (arrivals_in t)) c.changes.entries))) ∙ length-map _ _

-- the entries of a number that some entry is of
wanted_waits : (uploads : Numbered UploadRow) (wants : List Want) → AllByRecursion (λ w. list_any (waits_as w.upload) uploads ≡ true) wants
    → (id : ℕ) → list_any (is_wanted_by id) wants ≡ true → list_any (waits_as id) uploads ≡ true
wanted_waits uploads [] owned id h = absurd (true≢false (sym h))
wanted_waits uploads (w ∷ wants) owned id h = elim (or_cases (nat_eq w.upload id) (list_any (is_wanted_by id) wants) h) [
  | inl e ↦ subst (λ n. list_any (waits_as n) uploads ≡ true) (let same : w.upload ≡ id = grind (arith, nat_tests, e) in same) owned.0
  | inr e ↦ wanted_waits uploads wants owned.1 id e
]

none_below : {X : Type 0} (q : ℕ × X → Bool) (k : ℕ) (xs : Numbered X) → AllByRecursion (λ z. k < z.0) xs → list_any (λ z. nat_eq z.0 k && q z) xs ≡ false
none_below q k [] all = refl
none_below q k (x ∷ xs) all = let no : nat_eq x.0 k ≡ false = grind (arith, nat_tests, all.0) in rw (no, none_below q k xs all.1)

-- a row is the only one of its number
pub only_one : {X : Type 0} (q : ℕ × X → Bool) (xs : Numbered X) → Rises xs → AllByRecursion (λ x. list_any (λ z. nat_eq z.0 x.0 && q z) xs ≡ q x) xs
only_one q [] up = tt
only_one q (x ∷ xs) up =
    let other : (y : ℕ) → x.0 < y → nat_eq x.0 y ≡ false = λ y low. grind (arith, nat_tests, low) in
    let itself : nat_eq x.0 x.0 ≡ true = grind (arith, nat_tests) in (
      rw (itself, none_below q x.0 xs up.0) (or-false (q x)),
      all_weaker (λ y. (x.0 < y.0) × (list_any (λ z. nat_eq z.0 y.0 && q z) xs ≡ q y)) (λ y. list_any (λ z. nat_eq z.0 y.0 && q z) (x ∷ xs) ≡ q y)
          (λ y h. rw (other y.0 h.0) h.1) xs
          (all_both (λ y. x.0 < y.0) (λ y. list_any (λ z. nat_eq z.0 y.0 && q z) xs ≡ q y) xs up.0 (only_one q xs up.1)),
    )

pub wanting_unjudged : (t : Tables) (judged : List Judgement) → Rises t.uploads → AreUploads t judged → wanting t ≡ filter (λ x. not (has_place x.1)) t.uploads
unfolding wanting
wanting_unjudged t judged up are =
    let unjudged = λ (x : ℕ × UploadRow). not (has_place x.1) in
    let wanted = λ (x : ℕ × UploadRow). list_any (is_wanted_by x.0) (rows_of t.wants) in
    let owned = recursion_from_All (λ w. IsTrue (list_any (waits_as w.upload) t.uploads)) (rows_of t.wants) are.owned in
    filter_same_on wanted unjudged t.uploads
    (all_weaker (λ x. (unjudged x ≡ true → wanted x ≡ true) × (list_any (λ z. nat_eq z.0 x.0 && unjudged z) t.uploads ≡ unjudged x)) (λ x. wanted x ≡ unjudged x)
    (λ x h. same_tests (wanted x) (unjudged x) (λ w. sym h.1 ∙ wanted_waits t.uploads (rows_of t.wants) owned x.0 w) h.0) t.uploads
    (all_both (λ x. unjudged x ≡ true → wanted x ≡ true) (λ x. list_any (λ z. nat_eq z.0 x.0 && unjudged z) t.uploads ≡ unjudged x) t.uploads
    (unjudged_want t judged are) (only_one unjudged t.uploads up)))
