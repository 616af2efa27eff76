-- The uploads that are left once the arrivals that do not count are removed: what they ask for, and the other facts of their
-- rows.
use Rattle.std.proofs.Common.{◌≡◌, ◌≢◌, ℕ, ◌+◌, Bool, true, false, not, ◌&&◌, cond, nat_eq, List, [], ◌∷◌, map, filter, find, Contains, Option, Some, None, is_some, IsTrue, refl, sym, ap, ap₂, ◌∙◌, true≢false}
use Rattle.std.specs.List.{AllByRecursion, filter_map, list_any, cons_option}
use Rattle.std.specs.Option.{option_map_or}
use Rattle.std.proofs.lemmas.Bool.{and_from, and_parts, and_right, eqb-true, not_from_false, not-true}
use Rattle.std.specs.List.Sorted.{IsPermutation}
use Rattle.std.proofs.lemmas.List.Elements.{recursion_from_All}
use Rattle.std.proofs.lemmas.List.Sorted.{IsPermutation-map, IsPermutation-trans}
use Rattle.std.proofs.Math.Bool.{and_comm}
use Rattle.sqlite_keyed.specs.Lists.{sort_by as sorted_by}
use Rattle.sqlite_keyed.proofs.SortLemmas.{sort_by-map}
use Rattle.sqlite_keyed.proofs.ListLemmas.{IsPermutation-filter, IsPermutation-same, all-filter, all_map, all_of, all_weaker, ascending-filter, filter-filter, filter-map, filter_same, map-map, map_same}
use Rattle.sums.specs.Prints.{print as print_of}
use Rattle.sums.specs.declared.entries.Entry.{Entry}
use Rattle.sums.specs.declared.print.Print.{Print}
use Rattle.sums.proofs.Members.{any_false, any_some, any_true}
use Rattle.book.specs.Book.{Candidate, candidate_of, candidates, counts, current, is_judged}
use Rattle.book.specs.Keeping.{sign_of}
use Rattle.book.specs.declared.arrival.Arrival as book
use Rattle.book.specs.declared.change.Judgement.{Judgement}
use Rattle.tables.specs.Rows.{Numbered, Rises, Tables, rows_of, without}
use Rattle.tables.specs.Uploads.{is_judged as has_place}
use Rattle.tables.specs.Wants.{is_wanted_by}
use Rattle.tables.specs.declared.rows.ArrivalRow.{ArrivalRow}
use Rattle.tables.specs.declared.rows.UploadRow.{UploadRow}
use Rattle.tables.specs.declared.rows.Want.{Want}
use Rattle.tables_meaning.specs.Cleaning.{has_ended, is_current, with_current}
use Rattle.tables_meaning.specs.Kept.{AreArrivals, AreStored, AreUploads, Request, arrival_in, arrivals_in, bytes_of, is_placed, request_of, sign_in, want_order, wanted}
use Rattle.tables_meaning.proofs.ArrivalLemmas.{counts_as}
use Rattle.tables_meaning.proofs.BodyLemmas.{all_if}
use Rattle.tables_meaning.proofs.RequestLemmas.{requests, rows_from_uploads, sign_made, uploads_from_rows}
use Rattle.tables_meaning.proofs.RowLists.{all_filtered, find_kept}
use Rattle.tables_meaning.proofs.Searches.{filter_twice}
use Rattle.tables_meaning.proofs.WantLemmas.{AreRows, Sign, entry_in, is_waiting, request, waits_as, wants_of}
use Rattle.tables_meaning.proofs.WantingLemmas.{only_one}
use Rattle.tables_meaning.proofs.SweptFinished.{and_true}
use Rattle.suites.proofs.ListTests.{list_any-filter}
use Rattle.tables_cleaning.proofs.CurrentLemmas.{arrivals_current, bears_itself, own_counts, there_then}

-- ---- lists

-- What is made of some of the elements is some of what is made of all, if the tests agree.
candidates-filter : {X Y : Type 0} (f : X → Option Y) (p : X → Bool) (q : Y → Bool) (xs : List X)
    → AllByRecursion (λ x. (y : Y) → f x ≡ Some y → q y ≡ p x) xs → filter_map f (filter p xs) ≡ filter q (filter_map f xs)
candidates-filter f p q [] h = refl
candidates-filter {X} {Y} f p q (x ∷ xs) h = by_kind (candidates-filter f p q xs h.1) (f x) refl (p x) refl
  where
    by_kind : filter_map f (filter p xs) ≡ filter q (filter_map f xs) → (o : Option Y) → f x ≡ o → (b : Bool) → p x ≡ b
        → filter_map f (cond b (x ∷ filter p xs) (filter p xs)) ≡ filter q (cons_option o (filter_map f xs))
    by_kind rest None none true is = ap (λ o. cons_option o (filter_map f (filter p xs))) none ∙ rest
    by_kind rest None none false is = rest
    by_kind rest (Some y) some true is =
        ap (λ o. cons_option o (filter_map f (filter p xs))) some ∙ ap (λ ys. y ∷ ys) rest
        ∙ sym (ap (λ b. cond b (y ∷ filter q (filter_map f xs)) (filter q (filter_map f xs))) (h.0 y some ∙ is))
    by_kind rest (Some y) some false is =
        rest ∙ sym (ap (λ b. cond b (y ∷ filter q (filter_map f xs)) (filter q (filter_map f xs))) (h.0 y some ∙ is))

-- two tests, in either order
filter_turned : {X : Type 0} (p q : X → Bool) (xs : List X) → filter p (filter q xs) ≡ filter q (filter p xs)
filter_turned p q xs = sym (filter_twice q p xs) ∙ filter_same (λ x. q x && p x) (λ x. p x && q x) (λ x. and_comm (q x) (p x)) xs ∙ filter_twice p q xs

-- an upload that waits and has not ended is current
still : (j c : Bool) → (not (not j && not c) && not j) ≡ (not j && c)
still true c = refl
still false true = refl
still false false = refl

-- ---- what is asked for

-- the entry, which is still there if its name and print pass
abbrev pub fresh_entry : (Sign → Bool) → List ℕ × Print × Bool → List ℕ × Print × Bool
fresh_entry keep e = (e.0, e.1, e.2 && keep (e.0, e.1))

abbrev pub fresh : (Sign → Bool) → Request → Request
fresh keep r = (r.0, map (fresh_entry keep) r.1)

module _ (keep : Sign → Bool) {A : Type 0} (old new : A → Request) (kept : A → Bool) where
  abbrev passing : List A → List Request
  passing xs = filter (λ r. keep r.0) (map old xs)

  -- requests of things of which some are kept
  recounted : (xs : List A) → AllByRecursion (λ x. (kept x ≡ keep (old x).0) × (kept x ≡ true → new x ≡ fresh keep (old x))) xs
      → map new (filter kept xs) ≡ map (fresh keep) (passing xs)
  recounted [] h = refl
  recounted (x ∷ xs) h = go (kept x) refl (recounted xs h.1)
    where
      go : (b : Bool) → kept x ≡ b → map new (filter kept xs) ≡ map (fresh keep) (passing xs)
          → map new (cond b (x ∷ filter kept xs) (filter kept xs)) ≡ map (fresh keep) (cond (keep (old x).0) (old x ∷ passing xs) (passing xs))
      go true e more = ap₂ ◌∷◌ (h.0.1 e) more ∙ ap (λ b. map (fresh keep) (cond b (old x ∷ passing xs) (passing xs))) (sym e ∙ h.0.0)
      go false e more = more ∙ ap (λ b. map (fresh keep) (cond b (old x ∷ passing xs) (passing xs))) (sym e ∙ h.0.0)

-- ---- the rows of uploads and of wants that are left

module _ (t : Tables) (seconds : Option ℕ) (moment : ℕ) where
  abbrev cur : List ℕ → Print → Bool
  cur name print = is_current seconds moment t name print

  abbrev ended : UploadRow → Bool
  ended u = has_ended seconds moment t u

  -- an upload of this number has ended
  abbrev has_gone : ℕ → Bool
  has_gone id = list_any (λ x. nat_eq x.0 id && ended x.1) t.uploads

  abbrev stays : Want → Bool
  stays w = not (has_gone w.upload)

  -- a want is here if it counts
  abbrev turn : Want → Want
  turn w = cond (not (cur w.name w.print)) (record w { here = false }) w

  pub wants_left : rows_of (with_current seconds moment t).wants ≡ map turn (filter stays (rows_of t.wants))
  unfolding with_current
  wants_left =
      let left : Numbered Want = without (λ w. has_gone w.1.upload) t.wants in
      map-map (λ (x : ℕ × Want). x.1) (λ (x : ℕ × Want). cond (not (cur x.1.name x.1.print)) (x.0, record x.1 { here = false }) x) left
      ∙ map_same (λ (x : ℕ × Want). (cond (not (cur x.1.name x.1.print)) (x.0, record x.1 { here = false }) x).1) (λ x. turn x.1) (λ x. one x (not (cur x.1.name x.1.print))) left
      ∙ sym (map-map turn (λ (x : ℕ × Want). x.1) left)
      ∙ ap (map turn) (sym (filter-map stays (λ (x : ℕ × Want). x.1) t.wants))
    where
      one : (x : ℕ × Want) (b : Bool) → (cond b (x.0, record x.1 { here = false }) x).1 ≡ cond b (record x.1 { here = false }) x.1
      one x true = refl
      one x false = refl

  turn_upload : (w : Want) → (turn w).upload ≡ w.upload
  turn_upload w = elim (cur w.name w.print) as (λ b. (cond (not b) (record w { here = false }) w).upload ≡ w.upload) [ true ↦ refl | false ↦ refl ]

  abbrev keep : Sign → Bool
  keep s = cur s.0 s.1

  entry_turned : (w : Want) → entry_in (turn w) ≡ fresh_entry keep (entry_in w)
  entry_turned w =
      elim (cur w.name w.print) as (λ b. entry_in (cond (not b) (record w { here = false }) w) ≡ (w.name, w.print, w.here && b)) [
        | true ↦ ap (λ h. (w.name, w.print, h)) (sym (and_true w.here))
        | false ↦ ap (λ h. (w.name, w.print, h)) (sym (and_right w.here false refl))
      ]

  -- the wants of an upload that has not ended
  pub rows_then : (id : ℕ) → has_gone id ≡ false → (ws : List Want) → filter (is_wanted_by id) (map turn (filter stays ws)) ≡ map turn (filter (is_wanted_by id) ws)
  rows_then id none ws =
      filter-map (is_wanted_by id) turn (filter stays ws)
      ∙ ap (map turn) (filter_same (λ w. is_wanted_by id (turn w)) (is_wanted_by id) (λ w. ap (λ n. nat_eq n id) (turn_upload w)) (filter stays ws)
      ∙ filter-filter (is_wanted_by id) stays its_own ws)
    where
      its_own : (w : Want) → is_wanted_by id w ≡ true → stays w ≡ true
      its_own w mine = not_from_false (has_gone w.upload) (ap has_gone (eqb-true w.upload id mine) ∙ none)

  wants_then : (id : ℕ) → has_gone id ≡ false → (ws : List Want) → wants_of (map turn (filter stays ws)) id ≡ map (fresh_entry keep) (wants_of ws id)
  wants_then id none ws =
      ap (map entry_in) (rows_then id none ws)
      ∙ map-map entry_in turn (filter (is_wanted_by id) ws)
      ∙ map_same (λ w. entry_in (turn w)) (λ w. fresh_entry keep (entry_in w)) entry_turned (filter (is_wanted_by id) ws)
      ∙ sym (map-map (fresh_entry keep) entry_in (filter (is_wanted_by id) ws))

  -- an upload that is current has not ended
  not_ended : (u : UploadRow) → cur u.name u.print ≡ true → ended u ≡ false
  not_ended u e = ap (λ c. not (has_place u) && not c) e ∙ and_right (not (has_place u)) false refl

  -- an upload that has ended has no place
  unplaced : (place : ℕ) (u : UploadRow) → ended u ≡ true → is_placed place u ≡ false
  unplaced place u e = go u.place e
    where
      go : (o : Option ℕ) → (not (is_some o) && not (cur u.name u.print)) ≡ true → option_map_or (λ p. nat_eq p place) o false ≡ false
      go None h = refl
      go (Some p) h = absurd (true≢false (sym h))

  module _ (judged : List Judgement) (up : Rises t.uploads) (stored : AreStored t) (arrived : AreArrivals t) (are : AreUploads t judged) where
    abbrev all : List book.Arrival
    all = arrivals_in t

    abbrev some : List book.Arrival
    some = current seconds moment all

    abbrev unjudged : Candidate → Bool
    unjudged c = not (is_judged judged c)

    abbrev left : Numbered UploadRow
    left = without (λ x. ended x.1) t.uploads

    abbrev wants : List Want
    wants = map turn (filter stays (rows_of t.wants))

    rows : AreRows t.uploads (rows_of t.wants) judged (requests all judged)
    rows = rows_from_uploads t judged are

    -- ---- the uploads that wait

    waiting_left : filter is_waiting left ≡ filter (λ x. cur x.1.name x.1.print) (filter is_waiting t.uploads)
    waiting_left =
        sym (filter_twice (λ x. not (ended x.1)) is_waiting t.uploads)
        ∙ filter_same (λ x. not (ended x.1) && is_waiting x) (λ x. is_waiting x && cur x.1.name x.1.print) (λ x. still (has_place x.1) (cur x.1.name x.1.print)) t.uploads
        ∙ filter_twice is_waiting (λ x. cur x.1.name x.1.print) t.uploads

    abbrev IsAsked : ℕ × UploadRow → Type 0
    IsAsked x = (cur x.1.name x.1.print ≡ keep (request (rows_of t.wants) x).0)
        × (cur x.1.name x.1.print ≡ true → request wants x ≡ fresh keep (request (rows_of t.wants) x))

    asked_rows : AllByRecursion IsAsked (filter is_waiting t.uploads)
    asked_rows =
        all-filter IsAsked is_waiting t.uploads
        (all_weaker (λ x. has_gone x.0 ≡ ended x.1) IsAsked
        (λ x one. (refl, λ e. ap (λ l. (sign_in x.1, l)) (ap (sorted_by want_order) (wants_then x.0 (one ∙ not_ended x.1 e) (rows_of t.wants)) ∙ sort_by-map want_order (fresh_entry keep) (wants_of (rows_of t.wants) x.0)))) t.uploads
        (only_one (λ x. ended x.1) t.uploads up))

    -- ---- the candidates

    abbrev IsChosen : Candidate → Type 0
    IsChosen c = (keep (sign_of c) ≡ keep (request_of all c).0) × (keep (sign_of c) ≡ true → request_of some c ≡ fresh keep (request_of all c))

    asked_candidates : AllByRecursion IsChosen (filter unjudged (candidates all))
    asked_candidates = all_of IsChosen (λ c. (refl, λ e. ap (λ l. (sign_of c, l)) (ap (sorted_by want_order) (entries c.changes.entries) ∙ sort_by-map want_order (fresh_entry keep) (map (wanted all) c.changes.entries)))) (filter unjudged (candidates all))
      where
        entries : (es : List Entry) → map (wanted some) es ≡ map (fresh_entry keep) (map (wanted all) es)
        entries es =
            map_same (wanted some) (λ e. fresh_entry keep (wanted all e)) (λ e. ap (λ b. (e.name, e.print, b)) (there_then t stored arrived seconds moment e)) es
            ∙ sym (map-map (fresh_entry keep) (wanted all) es)

    -- a candidate is current exactly if its arrival counts
    abbrev IsTold : book.Arrival → Type 0
    IsTold a = (c : Candidate) → candidate_of a ≡ Some c → keep (sign_of c) ≡ counts seconds moment a

    told : AllByRecursion IsTold all
    unfolding arrivals_in
    told =
        all_map IsTold (arrival_in t) (rows_of t.arrivals)
        (recursion_from_All (λ r. IsTold (arrival_in t r)) (rows_of t.arrivals) (all_if (λ r. IsTold (arrival_in t r)) (rows_of t.arrivals) each))
      where
        each : (r : ArrivalRow) → Contains (rows_of t.arrivals) r → IsTold (arrival_in t r)
        each r in_rows c made =
            ap keep (sign_made (arrival_in t r) c made (arrival_in t r) c made)
            ∙ own_counts t stored arrived seconds moment r.name (print_of (bytes_of t r.body)) r in_rows (bears_itself t stored arrived seconds moment r)
            ∙ counts_as t seconds moment r

    candidates_left : filter (λ c. keep (sign_of c)) (filter unjudged (candidates all)) ≡ filter unjudged (candidates some)
    unfolding current
    candidates_left =
        filter_turned (λ c. keep (sign_of c)) unjudged (candidates all)
        ∙ ap (filter unjudged) (sym (candidates-filter candidate_of (counts seconds moment) (λ c. keep (sign_of c)) all told))

    waiting_then : IsPermutation (map (request wants) (filter is_waiting left)) (requests some judged)
    waiting_then =
        IsPermutation-trans _ _ _
        (IsPermutation-same _ _
        (ap (map (request wants)) waiting_left
        ∙ recounted keep (request (rows_of t.wants)) (request wants) (λ x. cur x.1.name x.1.print) (filter is_waiting t.uploads) asked_rows))
        (IsPermutation-trans _ _ _
        (IsPermutation-map (fresh keep) _ _ (IsPermutation-filter (λ r. keep r.0) _ _ rows.waiting))
        (IsPermutation-same _ _
        (sym (recounted keep (request_of all) (request_of some) (λ c. keep (sign_of c)) (filter unjudged (candidates all)) asked_candidates)
        ∙ ap (map (request_of some)) candidates_left)))

    -- ---- the other facts

    owner_stays : (w : Want) → list_any (waits_as w.upload) t.uploads ≡ true → stays w ≡ true → list_any (waits_as w.upload) left ≡ true
    owner_stays w owned h =
        let x = any_some (waits_as w.upload) t.uploads owned in
        let parts = and_parts (nat_eq x.0.0 w.upload) (not (has_place x.0.1)) x.2 in
        let none : (nat_eq x.0.0 w.upload && ended x.0.1) ≡ false = any_false (λ y. nat_eq y.0 w.upload && ended y.1) t.uploads x.0 (not-true (has_gone w.upload) h) x.1 in
        let lives : ended x.0.1 ≡ false = ap (λ b. b && ended x.0.1) (sym parts.0) ∙ none in
        list_any-filter (waits_as w.upload) (λ y. not (ended y.1)) t.uploads
        ∙ any_true (λ y. not (ended y.1) && waits_as w.upload y) t.uploads x.0 x.1
        (and_from (not (ended x.0.1)) (waits_as w.upload x.0) (not_from_false (ended x.0.1) lives) x.2)

    owned_then : AllByRecursion (λ w. list_any (waits_as w.upload) left ≡ true) wants
    owned_then =
        all_map (λ w. list_any (waits_as w.upload) left ≡ true) turn (filter stays (rows_of t.wants))
        (all_weaker (λ w. list_any (waits_as w.upload) left ≡ true) (λ w. list_any (waits_as (turn w).upload) left ≡ true)
        (λ w h. ap (λ n. list_any (waits_as n) left) (turn_upload w) ∙ h) (filter stays (rows_of t.wants))
        (all_filtered (λ w. list_any (waits_as w.upload) left ≡ true) stays (rows_of t.wants)
        (all_weaker (λ w. list_any (waits_as w.upload) t.uploads ≡ true) (λ w. stays w ≡ true → list_any (waits_as w.upload) left ≡ true) owner_stays (rows_of t.wants) rows.owned)))

    places_then : (n : ℕ) → find (is_placed (n + 1)) (rows_of left) ≡ find (is_placed (n + 1)) (rows_of t.uploads)
    places_then n =
        ap (find (is_placed (n + 1))) (sym (filter-map (λ u. not (ended u)) (λ (x : ℕ × UploadRow). x.1) t.uploads))
        ∙ find_kept (is_placed (n + 1)) ended (rows_of t.uploads) (all_of (λ u. ended u ≡ true → is_placed (n + 1) u ≡ false) (unplaced (n + 1)) (rows_of t.uploads))

    are_left : AreRows left wants judged (requests some judged)
    are_left = record {
      waiting = waiting_then;
      owned = owned_then;
      unjudged = all-filter (λ x. x.1.place ≡ None → x.1.verdict ≡ None) (λ x. not (ended x.1)) t.uploads rows.unjudged;
      places = λ n. places_then n ∙ rows.places n;
      from_one = all-filter (λ x. x.1.place ≢ Some 0) (λ x. not (ended x.1)) t.uploads rows.from_one;
      placed_apart = ascending-filter (λ x y. IsTrue (has_place x.1) → x.1.place ≢ y.1.place) (λ x. not (ended x.1)) t.uploads rows.placed_apart;
      apart = ascending-filter (λ x y. sign_in x.1 ≢ sign_in y.1) (λ x. not (ended x.1)) t.uploads rows.apart;
    }

    -- The uploads that are left are those of the arrivals that count.
    pub uploads_left : AreUploads (with_current seconds moment t) judged
    unfolding with_current
    uploads_left = uploads_from_rows (with_current seconds moment t) judged (record {
      uploads = left;
      wants = wants;
      asked = requests some judged;
      are = are_left;
      uploads_are = refl;
      wants_are = wants_left;
      asked_are = ap (λ l. requests l judged) (arrivals_current t stored arrived seconds moment);
    })
