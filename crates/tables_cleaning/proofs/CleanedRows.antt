-- On the rows of an archive the statements of a cleaning leave what a cleaning leaves at once.
use Rattle.std.proofs.Common.{◌≡◌, ◌⊎◌, inl, inr, ℕ, Bool, true, false, not, ◌&&◌, ◌||◌, cond, nat_eq, List, [], ◌∷◌, map, filter, fold, Contains, Option, Some, None, IsTrue, refl, sym, ap, subst, ◌∙◌, true≢false}
use Rattle.std.specs.List.{AllByRecursion, list_any, cons_option}
use Rattle.std.proofs.lemmas.Bool.{and_from, and_parts, and_right, eq-eqb, eqb-true, or_cases, or_left, or_right}
use Rattle.std.proofs.lemmas.List.Elements.{All-contains, All-from_recursion, recursion_from_All}
use Rattle.std.proofs.lemmas.List.Sorted.{Contains-permutation, IsPermutation-sym}
use Rattle.std.proofs.Math.Bool.{and_comm}
use Rattle.sqlite_keyed.specs.Lists.{sort_by as sorted_by}
use Rattle.sqlite_keyed.proofs.SortLemmas.{IsPermutation-sort_by}
use Rattle.sqlite_keyed.proofs.ListLemmas.{all-filter, all_weaker, filter_same}
use Rattle.rules.specs.Values.{ConfigValue}
use Rattle.sums.specs.Prints.{print as print_of}
use Rattle.sums.specs.declared.print.Print.{Print}
use Rattle.sums.proofs.Members.{any_none, any_false, any_some, any_true, contains_map, from_map, here, no_member, there, which}
use Rattle.sums.proofs.Words.{list_any-map}
use Rattle.suites.specs.Shelves.{ShelvesValue}
use Rattle.suites.proofs.ListTests.{same_tests, filter_same_on, same_any, list_any-filter, not_either}
use Rattle.book.specs.Book.{Candidate, candidate_of, candidates, is_judged, span}
use Rattle.book.specs.Keeping.{sign_of}
use Rattle.book.specs.declared.arrival.Arrival as book
use Rattle.book.specs.declared.change.Judgement.{Judgement}
use Rattle.tables.specs.Rows.{Numbered, Rises, Tables, rows_of, without}
use Rattle.tables.specs.Uploads.{is_judged as has_place}
use Rattle.tables.specs.Wants.{is_wanted_by}
use Rattle.tables.specs.declared.rows.ArrivalRow.{ArrivalRow}
use Rattle.tables.specs.declared.rows.UploadRow.{UploadRow}
use Rattle.tables.specs.declared.rows.Want.{Want}
use Rattle.tables_meaning.specs.Cleaning.{cleaned, counts_row, ended_rows, has_ended, is_current, with_cleaned, with_current, with_gone}
use Rattle.tables_meaning.specs.Kept.{AreArrivals, AreNumbered, AreStored, AreUploads, IsBook, arrival_in, arrivals_in, bytes_of, has_body, print_at, request_of, sign_in, want_order, wanted}
use Rattle.tables_meaning.proofs.NumberOrders.{want_order_total}
use Rattle.tables_meaning.specs.Sweeping.{swept}
use Rattle.tables_meaning.proofs.AmendedLemmas.{print_is}
use Rattle.tables_meaning.proofs.BodyLemmas.{all_if, are_stored}
use Rattle.book.proofs.Arrivals.{any_same as any_alike}
use Rattle.tables_meaning.proofs.RequestLemmas.{requests, rows_from_uploads, sign_at, sign_made}
use Rattle.tables_meaning.proofs.Searches.{all_of_rows, any_weaker, filter_twice, map_same_on}
use Rattle.tables_meaning.proofs.WantLemmas.{AreRows, any_waiting, entry_in, is_sign, is_sign-Decides, is_sign-turned, is_waiting, request, waits_as, wants_of}
use Rattle.tables_meaning.proofs.WantingLemmas.{only_one}
use Rattle.tables_cleaning.proofs.CurrentLemmas.{bears, own_counts, of_one_row, there_by}
use Rattle.tables_cleaning.proofs.GoneLemmas.{ends, ends_with, gone_rows, had, turned_off, without_each}

-- ---- lists

in_filter : {X : Type 0} (p : X → Bool) (x : X) (xs : List X) → Contains xs x → p x ≡ true → Contains (filter p xs) x
in_filter p x [] h e = no_member x h
in_filter {X} p x (y ∷ ys) h e = go (p y) refl (which y x ys h) (λ later. in_filter p x ys later e)
  where
    go : (b : Bool) → p y ≡ b → (y ≡ x) ⊎ Contains ys x → (Contains ys x → Contains (filter p ys) x) → Contains (cond b (y ∷ filter p ys) (filter p ys)) x
    go true k (inl same) more = subst (λ z. Contains (y ∷ filter p ys) z) same (here y (filter p ys))
    go true k (inr later) more = there y x (filter p ys) (more later)
    go false k (inl same) more = absurd (true≢false (sym e ∙ ap p (sym same) ∙ k))
    go false k (inr later) more = more later

pub is_numbered_turned : (a b : ℕ) → nat_eq a b ≡ nat_eq b a
is_numbered_turned a b = same_tests (nat_eq a b) (nat_eq b a) (λ e. eq-eqb b a (sym (eqb-true a b e))) (λ e. eq-eqb a b (sym (eqb-true b a e)))

-- ---- rows that go by their numbers

all_stay : {X : Type 0} (xs : List X) → xs ≡ filter (λ x. true) xs
all_stay [] = refl
all_stay (x ∷ xs) = ap (λ l. x ∷ l) (all_stay xs)

without_each-is : (gone left : Numbered ArrivalRow) → without_each left gone ≡ without (λ r. list_any (λ x. nat_eq r.0 x.0) gone) left
without_each-is [] left = all_stay left
without_each-is (x ∷ gone) left =
    without_each-is gone (without (λ r. nat_eq r.0 x.0) left)
    ∙ sym (filter_twice (λ r. not (nat_eq r.0 x.0)) (λ r. not (list_any (λ y. nat_eq r.0 y.0) gone)) left)
    ∙ filter_same (λ r. not (nat_eq r.0 x.0) && not (list_any (λ y. nat_eq r.0 y.0) gone)) (λ r. not (nat_eq r.0 x.0 || list_any (λ y. nat_eq r.0 y.0) gone))
    (λ r. (sym (not_either (nat_eq r.0 x.0) (list_any (λ y. nat_eq r.0 y.0) gone)))) left

-- the rows that pass a test, gone by their numbers
without_passing : (test : ℕ × ArrivalRow → Bool) (rows : Numbered ArrivalRow) → Rises rows → without_each rows (filter test rows) ≡ without test rows
without_passing test rows up =
    without_each-is (filter test rows) rows
    ∙ filter_same_on (λ r. not (list_any (λ x. nat_eq r.0 x.0) (filter test rows))) (λ r. not (test r)) rows
    (all_weaker (λ r. list_any (λ z. nat_eq z.0 r.0 && test z) rows ≡ test r) (λ r. not (list_any (λ x. nat_eq r.0 x.0) (filter test rows)) ≡ not (test r))
    (λ r one. ap not (numbered r ∙ one)) rows (only_one test rows up))
  where
    numbered : (r : ℕ × ArrivalRow) → list_any (λ x. nat_eq r.0 x.0) (filter test rows) ≡ list_any (λ z. nat_eq z.0 r.0 && test z) rows
    numbered r =
        list_any-filter (λ x. nat_eq r.0 x.0) test rows
        ∙ same_any (λ x. test x && nat_eq r.0 x.0) (λ z. nat_eq z.0 r.0 && test z)
        (λ z. and_comm (test z) (nat_eq r.0 z.0) ∙ ap (λ b. b && test z) (is_numbered_turned r.0 z.0)) rows

-- the sign of a candidate is that of an arrival
sign_arrived : (s : List ℕ × Print) (arrivals : List book.Arrival) → list_any (λ c. is_sign s (sign_of c)) (candidates arrivals) ≡ true → list_any (λ a. is_sign s (sign_at a)) arrivals ≡ true
sign_arrived s [] h = h
sign_arrived s (a ∷ arrivals) h = go (candidate_of a) refl h (sign_arrived s arrivals)
  where
    go : (o : Option Candidate) → candidate_of a ≡ o → list_any (λ c. is_sign s (sign_of c)) (cons_option o (candidates arrivals)) ≡ true
        → (list_any (λ c. is_sign s (sign_of c)) (candidates arrivals) ≡ true → list_any (λ b. is_sign s (sign_at b)) arrivals ≡ true)
        → (is_sign s (sign_at a) || list_any (λ b. is_sign s (sign_at b)) arrivals) ≡ true
    go None e k more = or_right (is_sign s (sign_at a)) (list_any (λ b. is_sign s (sign_at b)) arrivals) (more k)
    go (Some c) e k more = elim (or_cases (is_sign s (sign_of c)) (list_any (λ d. is_sign s (sign_of d)) (candidates arrivals)) k) [
      | inl mine ↦ or_left (is_sign s (sign_at a)) (list_any (λ b. is_sign s (sign_at b)) arrivals) (ap (is_sign s) (sym (sign_made a c e a c e)) ∙ mine)
      | inr later ↦ or_right (is_sign s (sign_at a)) (list_any (λ b. is_sign s (sign_at b)) arrivals) (more later)
    ]

-- ---- what has gone, on the rows of an archive

module _ (t : Tables) (stored : AreStored t) (arrived : AreArrivals t) (seconds : Option ℕ) (moment : ℕ) where
  abbrev cur : List ℕ → Print → Bool
  cur name print = is_current seconds moment t name print

  abbrev has_come : List ℕ → Print → Bool
  has_come name print = list_any (bears t name print) (rows_of t.arrivals)

  abbrev gone : List ℕ → Print → Bool
  gone name print = list_any (λ x. had t x name print) (ended_rows seconds moment t)

  abbrev ended : ArrivalRow → Bool
  ended a = not (counts_row seconds moment a)

  gone_by : (name : List ℕ) (print : Print) → gone name print ≡ list_any (λ a. bears t name print a && ended a) (rows_of t.arrivals)
  gone_by name print =
      list_any-filter (λ x. had t x name print) (λ x. ended x.1) t.arrivals
      ∙ same_any (λ x. ended x.1 && had t x name print) (λ x. bears t name print x.1 && ended x.1)
      (λ x. and_comm (ended x.1) (had t x name print) ∙ ap (λ b. b && ended x.1) (is_sign-turned (x.1.name, print_of (bytes_of t x.1.body)) (name, print))) t.arrivals
      ∙ sym (list_any-map (λ x. x.1) (λ a. bears t name print a && ended a) t.arrivals)

  -- a name and a print that came have gone exactly if they are not current
  gone_is : (name : List ℕ) (print : Print) → gone name print ≡ (has_come name print && not (cur name print))
  gone_is name print = go (has_come name print) refl
    where
      go : (b : Bool) → has_come name print ≡ b → gone name print ≡ (b && not (cur name print))
      go true e =
          let a = any_some (bears t name print) (rows_of t.arrivals) e in
          gone_by name print ∙ of_one_row t stored arrived seconds moment ended name print a.0 a.1 a.2
          ∙ ap not (sym (own_counts t stored arrived seconds moment name print a.0 a.1 a.2))
      go false e =
          gone_by name print
          ∙ any_none (λ a. bears t name print a && ended a) (rows_of t.arrivals)
          (λ a c. ap (λ b. b && ended a) (any_false (bears t name print) (rows_of t.arrivals) a e c))

  module _ (judged : List Judgement) (up : Rises t.uploads) (are : AreUploads t judged) where
    rows : AreRows t.uploads (rows_of t.wants) judged (requests (arrivals_in t) judged)
    rows = rows_from_uploads t judged are

    -- an upload that waits has come
    waiting_came : (x : ℕ × UploadRow) → Contains t.uploads x → is_waiting x ≡ true → has_come x.1.name x.1.print ≡ true
    unfolding arrivals_in
    waiting_came x c waits =
        let s = sign_in x.1 in
        let unjudged : Candidate → Bool = λ d. not (is_judged judged d) in
        let row : list_any (λ y. is_waiting y && is_sign s (sign_in y.1)) t.uploads ≡ true =
        any_true (λ y. is_waiting y && is_sign s (sign_in y.1)) t.uploads x c (and_from (is_waiting x) (is_sign s s) waits ((is_sign-Decides s s).1 refl)) in
        let asked : list_any (λ d. is_sign s (sign_of d)) (filter unjudged (candidates (arrivals_in t))) ≡ true =
        sym (list_any-map (request_of (arrivals_in t)) (λ r. is_sign s r.0) (filter unjudged (candidates (arrivals_in t))))
        ∙ sym (any_waiting t.uploads (rows_of t.wants) judged (requests (arrivals_in t) judged) rows s) ∙ row in
        let made : list_any (λ d. is_sign s (sign_of d)) (candidates (arrivals_in t)) ≡ true =
        any_weaker (λ d. unjudged d && is_sign s (sign_of d)) (λ d. is_sign s (sign_of d)) (λ d h. (and_parts (unjudged d) (is_sign s (sign_of d)) h).1) (candidates (arrivals_in t))
        (sym (list_any-filter (λ d. is_sign s (sign_of d)) unjudged (candidates (arrivals_in t))) ∙ asked) in
        sym (list_any-map (arrival_in t) (λ a. is_sign s (sign_at a)) (rows_of t.arrivals)) ∙ sign_arrived s (arrivals_in t) made

    -- an upload is judged, or it has gone exactly if it is not current
    same_end : (x : ℕ × UploadRow) → Contains t.uploads x → ends gone x ≡ has_ended seconds moment t x.1
    same_end x c = go (is_waiting x) refl
      where
        go : (b : Bool) → is_waiting x ≡ b → (is_waiting x && gone x.1.name x.1.print) ≡ (is_waiting x && not (cur x.1.name x.1.print))
        go true e = ap (λ b. is_waiting x && b) (gone_is x.1.name x.1.print ∙ ap (λ b. b && not (cur x.1.name x.1.print)) (waiting_came x c e))
        go false e = ap (λ b. b && gone x.1.name x.1.print) e ∙ sym (ap (λ b. b && not (cur x.1.name x.1.print)) e)

    all_same_end : AllByRecursion (λ x. ends gone x ≡ has_ended seconds moment t x.1) t.uploads
    all_same_end = recursion_from_All (λ x. ends gone x ≡ has_ended seconds moment t x.1) t.uploads (all_if (λ x. ends gone x ≡ has_ended seconds moment t x.1) t.uploads same_end)

    -- a want is here exactly if its name and print came
    want_came : (w : Want) → Contains (rows_of t.wants) w → w.here ≡ has_come w.name w.print
    want_came w c =
        let owned = All-contains (λ v. list_any (waits_as v.upload) t.uploads ≡ true) (rows_of t.wants) w
        (All-from_recursion (λ v. list_any (waits_as v.upload) t.uploads ≡ true) (rows_of t.wants) rows.owned) c in
        let x = any_some (waits_as w.upload) t.uploads owned in
        let parts = and_parts (nat_eq x.0.0 w.upload) (not (has_place x.0.1)) x.2 in
        let waits : Contains (filter is_waiting t.uploads) x.0 = in_filter is_waiting x.0 t.uploads x.1 parts.1 in
        let asked = Contains-permutation _ _ (request (rows_of t.wants) x.0) rows.waiting (contains_map (request (rows_of t.wants)) x.0 (filter is_waiting t.uploads) waits) in
        let from = from_map (request_of (arrivals_in t)) (request (rows_of t.wants) x.0) (filter (λ d. not (is_judged judged d)) (candidates (arrivals_in t))) asked in
        let mine : is_wanted_by x.0.0 w ≡ true = is_numbered_turned w.upload x.0.0 ∙ parts.0 in
        let entry : Contains (wants_of (rows_of t.wants) x.0.0) (entry_in w) =
        contains_map entry_in w (filter (is_wanted_by x.0.0) (rows_of t.wants)) (in_filter (is_wanted_by x.0.0) w (rows_of t.wants) c mine) in
        let mine_sorted = Contains-permutation (wants_of (rows_of t.wants) x.0.0) (sorted_by want_order (wants_of (rows_of t.wants) x.0.0)) (entry_in w)
        (IsPermutation-sym _ _ (IsPermutation-sort_by want_order want_order_total (wants_of (rows_of t.wants) x.0.0))) entry in
        let all_asked = map (wanted (arrivals_in t)) from.0.changes.entries in
        let listed : Contains all_asked (entry_in w) =
        Contains-permutation (sorted_by want_order all_asked) all_asked (entry_in w) (IsPermutation-sort_by want_order want_order_total all_asked)
        (subst (λ l. Contains l (entry_in w)) (sym (ap (λ r. r.1) from.2)) mine_sorted) in
        let e = from_map (wanted (arrivals_in t)) (entry_in w) from.0.changes.entries listed in
        sym (ap (λ v. v.2) e.2)
        ∙ there_by t stored arrived seconds moment e.0
        ∙ (λ i. list_any (bears t (e.2 i).0 (e.2 i).1) (rows_of t.arrivals))

    -- ---- the rows that are left

    same_uploads : without (ends gone) t.uploads ≡ without (λ x. has_ended seconds moment t x.1) t.uploads
    same_uploads =
        filter_same_on (λ x. not (ends gone x)) (λ x. not (has_ended seconds moment t x.1)) t.uploads
        (all_weaker (λ x. ends gone x ≡ has_ended seconds moment t x.1) (λ x. not (ends gone x) ≡ not (has_ended seconds moment t x.1)) (λ x e. ap not e) t.uploads all_same_end)

    abbrev left : Numbered Want
    left = without (λ w. list_any (λ x. nat_eq x.0 w.1.upload && has_ended seconds moment t x.1) t.uploads) t.wants

    same_left : without (ends_with gone t.uploads) t.wants ≡ left
    same_left =
        filter_same (λ w. not (ends_with gone t.uploads w)) (λ w. not (list_any (λ x. nat_eq x.0 w.1.upload && has_ended seconds moment t x.1) t.uploads))
        (λ w. ap not (any_alike (λ x. nat_eq x.0 w.1.upload && ends gone x) (λ x. nat_eq x.0 w.1.upload && has_ended seconds moment t x.1) t.uploads
        (λ x c. ap (λ b. nat_eq x.0 w.1.upload && b) (same_end x c)))) t.wants

    -- a flag that is off already may be turned off
    turned_alike : (w : ℕ × Want) → w.1.here ≡ has_come w.1.name w.1.print
        → cond (gone w.1.name w.1.print) (w.0, record w.1 { here = false }) w ≡ cond (not (cur w.1.name w.1.print)) (w.0, record w.1 { here = false }) w
    turned_alike w is = ap (λ b. cond b (w.0, record w.1 { here = false }) w) (gone_is w.1.name w.1.print ∙ ap (λ b. b && not (cur w.1.name w.1.print)) (sym is)) ∙ go (cur w.1.name w.1.print) w.1.here refl
      where
        go : (c b : Bool) → w.1.here ≡ b → cond (w.1.here && not c) (w.0, record w.1 { here = false }) w ≡ cond (not c) (w.0, record w.1 { here = false }) w
        go true b e = ap (λ h. cond h (w.0, record w.1 { here = false }) w) (and_right w.1.here false refl)
        go false true e = ap (λ h. cond (h && true) (w.0, record w.1 { here = false }) w) e
        go false false e = ap (λ h. cond (h && true) (w.0, record w.1 { here = false }) w) e ∙ (λ i. (w.0, record w.1 { here = e i }))

    same_wants : turned_off gone (without (ends_with gone t.uploads) t.wants) ≡ turned_off (λ name print. not (cur name print)) left
    same_wants =
        let IsAlike : ℕ × Want → Type 0 = λ w. cond (gone w.1.name w.1.print) (w.0, record w.1 { here = false }) w ≡ cond (not (cur w.1.name w.1.print)) (w.0, record w.1 { here = false }) w in
        ap (turned_off gone) same_left
        ∙ map_same_on (λ (w : ℕ × Want). cond (gone w.1.name w.1.print) (w.0, record w.1 { here = false }) w) (λ (w : ℕ × Want). cond (not (cur w.1.name w.1.print)) (w.0, record w.1 { here = false }) w) left
        (all-filter IsAlike (λ w. not (list_any (λ x. nat_eq x.0 w.1.upload && has_ended seconds moment t x.1) t.uploads)) t.wants
        (all_weaker (λ w. w.1.here ≡ has_come w.1.name w.1.print) IsAlike turned_alike t.wants
        (all_of_rows (λ w. w.here ≡ has_come w.name w.print) t.wants (all_if (λ w. w.here ≡ has_come w.name w.print) (rows_of t.wants) want_came))))

    module _ (arrivals_up : Rises t.arrivals) where
      printed : AllByRecursion (λ x. print_at t x.1.body ≡ Some (print_of (bytes_of t x.1.body))) (ended_rows seconds moment t)
      printed =
          all-filter (λ x. print_at t x.1.body ≡ Some (print_of (bytes_of t x.1.body))) (λ x. ended x.1) t.arrivals
          (all_weaker (λ x. IsTrue (has_body t x.1.body)) (λ x. print_at t x.1.body ≡ Some (print_of (bytes_of t x.1.body))) (λ x h. print_is t stored x.1.body h) t.arrivals
          (all_of_rows (λ a. IsTrue (has_body t a.body)) t.arrivals arrived.bodies))

      -- The arrivals that do not count, gone one after another, leave the rows without them.
      pub gone_current : fold (λ now x. with_gone x now) t (ended_rows seconds moment t) ≡ with_current seconds moment t
      unfolding with_current
      gone_current =
          gone_rows t up rows.apart (ended_rows seconds moment t) printed
          ∙ (λ i. record t { arrivals = without_passing (λ x. ended x.1) t.arrivals arrivals_up i; uploads = same_uploads i; wants = same_wants i })

-- THE STATEMENTS of a cleaning leave what a cleaning leaves at once.
pub with_cleaned-cleaned : (t : Tables) (config : ConfigValue) (judged : List Judgement) (shown : ShelvesValue) (dates : List ℕ) (moment : ℕ) → AreNumbered t → IsBook t config judged shown dates
    → with_cleaned (span config) moment t ≡ cleaned (span config) moment t
unfolding with_cleaned cleaned
with_cleaned-cleaned t config judged shown dates moment numbered kept =
    ap swept (gone_current t (are_stored t kept.bodies) kept.arrivals (span config) moment judged numbered.uploads kept.uploads numbered.arrivals)
