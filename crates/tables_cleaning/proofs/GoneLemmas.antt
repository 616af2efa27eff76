-- What the statements of a cleaning make of the rows, one arrival after another.
use Rattle.std.proofs.Common.{◌≡◌, ◌≢◌, ◌<◌, ℕ, Bool, true, false, not, ◌&&◌, ◌||◌, cond, if◌then◌else◌, nat_eq, List, [], ◌∷◌, map, filter, find, fold, Option, Some, None, bytes_eq, refl, sym, ap, ◌∙◌}
use Rattle.std.specs.List.{AllByRecursion, list_any}
use Rattle.std.specs.Option.{option_map_or}
use Rattle.std.proofs.lemmas.Bool.{and_from, and_parts, and_right, eq-eqb, eqb-true, false_from_ne_true}
use Rattle.std.proofs.lemmas.List.{map-id}
use Rattle.std.proofs.lemmas.List.Elements.{All-contains, All-from_recursion}
use Rattle.std.proofs.Math.Bool.{or_assoc, or-false}
use Rattle.sqlite_trees.specs.Tree.{IsAscending}
use Rattle.sqlite_keyed.proofs.ListLemmas.{all_of, all_weaker, any_from_none, ascending-filter, ascending_weaker, filter_all, filter-map, filter_same, map-map, map_same}
use Rattle.sums.specs.Prints.{print as print_of, same_print}
use Rattle.sums.specs.declared.print.Print.{Print}
use Rattle.sums.proofs.Members.{any_some, any_true}
use Rattle.tables.specs.Arrivals.{without_arrival}
use Rattle.tables.specs.Rows.{Numbered, Rises, Tables, changed, without}
use Rattle.tables.specs.Uploads.{is_judged as has_place, is_upload, without_upload}
use Rattle.tables.specs.Wants.{is_wanted_by, with_away, without_wants}
use Rattle.tables.specs.declared.rows.ArrivalRow.{ArrivalRow}
use Rattle.tables.specs.declared.rows.UploadRow.{UploadRow}
use Rattle.tables.specs.declared.rows.Want.{Want}
use Rattle.tables_meaning.specs.Cleaning.{with_gone, without_request}
use Rattle.tables_meaning.specs.Kept.{bytes_of, print_at, sign_in}
use Rattle.tables_meaning.proofs.BodyLemmas.{found}
use Rattle.tables_meaning.proofs.RowLists.{none_passes, number_is, only_one}
use Rattle.tables_meaning.proofs.Searches.{all_both, filter_twice}
use Rattle.tables_meaning.proofs.WantLemmas.{is_sign-Decides}
use Rattle.suites.proofs.ListTests.{same_tests, filter_same_on, same_any, list_any-filter, not_either}

-- ---- lists

-- a list without the elements that pass one test, and then without those that pass the other
without_twice : {X : Type 0} (p q r : X → Bool) → ((x : X) → (not (p x) && not (q x)) ≡ not (r x)) → (xs : List X)
    → filter (λ x. not (q x)) (filter (λ x. not (p x)) xs) ≡ filter (λ x. not (r x)) xs
without_twice p q r same xs = sym (filter_twice (λ x. not (p x)) (λ x. not (q x)) xs) ∙ filter_same (λ x. not (p x) && not (q x)) (λ x. not (r x)) same xs

any_or : {X : Type 0} (p q : X → Bool) (xs : List X) → list_any (λ x. p x || q x) xs ≡ (list_any p xs || list_any q xs)
any_or p q [] = refl
any_or p q (x ∷ xs) = ap (λ b. (p x || q x) || b) (any_or p q xs) ∙ mixed (p x) (q x) (list_any p xs) (list_any q xs)
  where
    mixed : (a b c d : Bool) → ((a || b) || (c || d)) ≡ ((a || c) || (b || d))
    mixed true b c d = refl
    mixed false true true d = refl
    mixed false true false d = refl
    mixed false false c d = refl

-- if no element passes, none goes
none_go : {X : Type 0} (p : X → Bool) (xs : List X) → AllByRecursion (λ x. p x ≡ false) xs → filter (λ x. not (p x)) xs ≡ xs
none_go p xs h = filter_all (λ x. not (p x)) xs (all_weaker (λ x. p x ≡ false) (λ x. not (p x) ≡ true) (λ x e. ap not e) xs h)

nor_under : (u a h : Bool) → (not (u && a) && not (u && h)) ≡ not (u && (a || h))
nor_under true a h = (sym (not_either a h))
nor_under false a h = refl

or_under : (n u a h : Bool) → ((n && (u && a)) || (not (u && a) && (n && (u && h)))) ≡ (n && (u && (a || h)))
or_under true true true h = refl
or_under true true false h = refl
or_under true false a h = refl
or_under false true true h = refl
or_under false true false h = refl
or_under false false a h = refl

-- ---- the upload of a name and a print

module _ (name : List ℕ) (print : Print) where
  abbrev is_it : ℕ × UploadRow → Bool
  is_it r = is_upload name print r.1

  -- the upload has no verdict
  abbrev goes : ℕ × UploadRow → Bool
  goes r = not (has_place r.1) && is_it r

  -- the want is one of such an upload
  abbrev goes_with : Numbered UploadRow → ℕ × Want → Bool
  goes_with us w = list_any (λ r. nat_eq r.0 w.1.upload && goes r) us

  abbrev AreApart : Numbered UploadRow → Type 0
  AreApart us = IsAscending (λ x y. sign_in x.1 ≢ sign_in y.1) us

  once : (us : Numbered UploadRow) → AreApart us → IsAscending (λ x y. is_it x ≡ true → is_it y ≡ false) us
  once us apart =
      ascending_weaker (λ x y. sign_in x.1 ≢ sign_in y.1) (λ x y. is_it x ≡ true → is_it y ≡ false)
      (λ x y h p. false_from_ne_true (is_it y)
      (λ q. h ((is_sign-Decides (name, print) (sign_in x.1)).0 p ∙ sym ((is_sign-Decides (name, print) (sign_in y.1)).0 q)))) us apart

  none_gone : (us : Numbered UploadRow) (ws : Numbered Want) → AllByRecursion (λ r. goes r ≡ false) us → (us ≡ without goes us) × (ws ≡ without (goes_with us) ws)
  none_gone us ws h = (
    sym (none_go goes us h),
    sym (none_go (goes_with us) ws (all_of (λ w. goes_with us w ≡ false) none_with ws)),
  )
    where
      none_with : (w : ℕ × Want) → goes_with us w ≡ false
      none_with w =
          any_from_none (λ r. nat_eq r.0 w.1.upload && goes r) us
          (all_weaker (λ r. goes r ≡ false) (λ r. (nat_eq r.0 w.1.upload && goes r) ≡ false) (λ r e. and_right (nat_eq r.0 w.1.upload) (goes r) e) us h)

  module _ (us : Numbered UploadRow) (up : Rises us) (apart : AreApart us) (z : ℕ × UploadRow) (e : find is_it us ≡ Some z) where
    ones : AllByRecursion (λ r. is_it r ≡ true → r ≡ z) us
    ones = only_one is_it us z (once us apart) e

    -- an upload that has a verdict stays
    judged_stays : has_place z.1 ≡ true → AllByRecursion (λ r. goes r ≡ false) us
    judged_stays placed = all_weaker (λ r. is_it r ≡ true → r ≡ z) (λ r. goes r ≡ false) (λ r h. each r h (is_it r) refl) us ones
      where
        each : (r : ℕ × UploadRow) → (is_it r ≡ true → r ≡ z) → (b : Bool) → is_it r ≡ b → (not (has_place r.1) && b) ≡ false
        each r h true k = ap (λ (q : ℕ × UploadRow). not (has_place q.1) && true) (h k) ∙ ap (λ b. not b && true) placed
        each r h false k = and_right (not (has_place r.1)) false refl

    module _ (unplaced : has_place z.1 ≡ false) where
      z_goes : goes z ≡ true
      z_goes = and_from (not (has_place z.1)) (is_it z) (ap not unplaced) (found is_it us z e).passes

      by_number : AllByRecursion (λ r. nat_eq r.0 z.0 ≡ goes r) us
      by_number =
          all_weaker (λ r. (nat_eq r.0 z.0 ≡ true → r ≡ z) × (is_it r ≡ true → r ≡ z)) (λ r. nat_eq r.0 z.0 ≡ goes r)
          (λ r h. same_tests (nat_eq r.0 z.0) (goes r) (λ k. ap goes (h.0 k) ∙ z_goes)
          (λ k. eq-eqb r.0 z.0 (ap (λ (q : ℕ × UploadRow). q.0) (h.1 (and_parts (not (has_place r.1)) (is_it r) k).1)))) us
          (all_both (λ r. nat_eq r.0 z.0 ≡ true → r ≡ z) (λ r. is_it r ≡ true → r ≡ z) us (number_is is_it us z up e) ones)

      uploads_gone : without (λ r. nat_eq r.0 z.0) us ≡ without goes us
      uploads_gone =
          filter_same_on (λ r. not (nat_eq r.0 z.0)) (λ r. not (goes r)) us
          (all_weaker (λ r. nat_eq r.0 z.0 ≡ goes r) (λ r. not (nat_eq r.0 z.0) ≡ not (goes r)) (λ r h. ap not h) us by_number)

      wanted : (w : ℕ × Want) → is_wanted_by z.0 w.1 ≡ goes_with us w
      wanted w =
          same_tests (nat_eq w.1.upload z.0) (goes_with us w)
          (λ k. any_true (λ r. nat_eq r.0 w.1.upload && goes r) us z (found is_it us z e).within
          (and_from (nat_eq z.0 w.1.upload) (goes z) (eq-eqb z.0 w.1.upload (sym (eqb-true w.1.upload z.0 k))) z_goes))
          (λ k.
          let x = any_some (λ r. nat_eq r.0 w.1.upload && goes r) us k in
          let parts = and_parts (nat_eq x.0.0 w.1.upload) (goes x.0) x.2 in
          let at : nat_eq x.0.0 z.0 ≡ goes x.0 = All-contains (λ r. nat_eq r.0 z.0 ≡ goes r) us x.0 (All-from_recursion (λ r. nat_eq r.0 z.0 ≡ goes r) us by_number) x.1 in
          eq-eqb w.1.upload z.0 (sym (eqb-true x.0.0 w.1.upload parts.0) ∙ eqb-true x.0.0 z.0 (at ∙ parts.1)))

      wants_gone : (ws : Numbered Want) → without (λ w. is_wanted_by z.0 w.1) ws ≡ without (goes_with us) ws
      wants_gone ws = filter_same (λ w. not (is_wanted_by z.0 w.1)) (λ w. not (goes_with us w)) (λ w. ap not (wanted w)) ws

-- the upload is gone with what it wants, if it has no verdict
request_gone : (name : List ℕ) (print : Print) (u : Tables) → Rises u.uploads → AreApart name print u.uploads
    → without_request name print u ≡ record u { uploads = without (goes name print) u.uploads; wants = without (goes_with name print u.uploads) u.wants }
unfolding without_request
request_gone name print u up apart = by (find (is_it name print) u.uploads) refl
  where
    with_rows : Numbered UploadRow → Numbered Want → Tables
    with_rows us ws = record u { uploads = us; wants = ws }

    left : Tables
    left = with_rows (without (goes name print) u.uploads) (without (goes_with name print u.uploads) u.wants)

    none : AllByRecursion (λ r. goes name print r ≡ false) u.uploads → u ≡ left
    none h = let same = none_gone name print u.uploads u.wants h in λ i. with_rows (same.0 i) (same.1 i)

    judged : (z : ℕ × UploadRow) → find (is_it name print) u.uploads ≡ Some z → (b : Bool) → has_place z.1 ≡ b
        → (if b then u else without_upload z.0 (without_wants z.0 u)) ≡ left
    judged z e true placed = none (judged_stays name print u.uploads up apart z e placed)
    judged z e false unplaced =
        λ i. with_rows (uploads_gone name print u.uploads up apart z e unplaced i) (wants_gone name print u.uploads up apart z e unplaced u.wants i)

    by : (o : Option (ℕ × UploadRow)) → find (is_it name print) u.uploads ≡ o
        → option_map_or (λ x. if has_place x.1 then u else without_upload x.0 (without_wants x.0 u)) o u ≡ left
    by None e =
        none (all_weaker (λ r. is_it name print r ≡ false) (λ r. goes name print r ≡ false) (λ r h. and_right (not (has_place r.1)) (is_it name print r) h) u.uploads
        (none_passes (is_it name print) u.uploads e))
    by (Some z) e = judged z e (has_place z.1) refl

-- ---- the rows once some names and prints are removed

abbrev pub Away : Type 0
Away = List ℕ → Print → Bool

-- the arrival of a row has this name, and its body this print
abbrev pub had : Tables → ℕ × ArrivalRow → Away
had t x name print = bytes_eq name x.1.name && same_print print (print_of (bytes_of t x.1.body))

-- the upload is one of these names and prints, without a verdict
abbrev pub ends : Away → ℕ × UploadRow → Bool
ends away r = not (has_place r.1) && away r.1.name r.1.print

abbrev pub ends_with : Away → Numbered UploadRow → ℕ × Want → Bool
ends_with away us w = list_any (λ r. nat_eq r.0 w.1.upload && ends away r) us

-- the wants, with the flags off of these names and prints
abbrev pub turned_off : Away → Numbered Want → Numbered Want
turned_off away ws = changed (λ w. away w.1.name w.1.print) (λ w. record w { here = false }) ws

-- these uploads and their wants are gone, the flags of the other wants of these names and prints are off, and these
-- arrivals are left
abbrev pub away_rows : Tables → Away → Numbered ArrivalRow → Tables
away_rows t away left = record t { arrivals = left; uploads = without (ends away) t.uploads; wants = turned_off away (without (ends_with away t.uploads) t.wants) }

-- the rows that are left once those of these numbers are gone
abbrev pub without_each : Numbered ArrivalRow → Numbered ArrivalRow → Numbered ArrivalRow
without_each left gone = fold (λ rows x. without (λ r. nat_eq r.0 x.0) rows) left gone

module _ (t : Tables) (up : Rises t.uploads) (apart : IsAscending (λ x y. sign_in x.1 ≢ sign_in y.1) t.uploads) where
  -- one more name and print is removed
  abbrev more : Away → ℕ × ArrivalRow → Away
  more away x = λ name print. away name print || had t x name print

  abbrev IsPrinted : ℕ × ArrivalRow → Type 0
  IsPrinted x = print_at t x.1.body ≡ Some (print_of (bytes_of t x.1.body))

  module _ (away : Away) (x : ℕ × ArrivalRow) where
    abbrev print_here : Print
    print_here = print_of (bytes_of t x.1.body)

    uploads_more : without (goes x.1.name print_here) (without (ends away) t.uploads) ≡ without (ends (more away x)) t.uploads
    uploads_more =
        without_twice (ends away) (goes x.1.name print_here) (ends (more away x))
        (λ r. nor_under (not (has_place r.1)) (away r.1.name r.1.print) (had t x r.1.name r.1.print)) t.uploads

    abbrev off : Bool → ℕ × Want → ℕ × Want
    off b w = cond b (w.0, record w.1 { here = false }) w

    turned_more : (ws : Numbered Want) → turned_off (had t x) (turned_off away ws) ≡ turned_off (more away x) ws
    turned_more ws =
        map-map (λ (w : ℕ × Want). off (had t x w.1.name w.1.print) w) (λ (w : ℕ × Want). off (away w.1.name w.1.print) w) ws
        ∙ map_same (λ (w : ℕ × Want). off (had t x (off (away w.1.name w.1.print) w).1.name (off (away w.1.name w.1.print) w).1.print) (off (away w.1.name w.1.print) w))
        (λ (w : ℕ × Want). off (more away x w.1.name w.1.print) w) (λ w. first w (away w.1.name w.1.print)) ws
      where
        second : (w : ℕ × Want) (b : Bool) → off b (w.0, record w.1 { here = false }) ≡ (w.0, record w.1 { here = false })
        second w true = refl
        second w false = refl

        first : (w : ℕ × Want) (a : Bool) → off (had t x (off a w).1.name (off a w).1.print) (off a w) ≡ off (a || had t x w.1.name w.1.print) w
        first w true = second w (had t x w.1.name w.1.print)
        first w false = refl

    -- uploads that go take their wants along, whatever flags these have
    moved : (us : Numbered UploadRow) (those : Away) (ws : Numbered Want)
        → without (goes_with x.1.name print_here us) (turned_off those ws) ≡ turned_off those (without (goes_with x.1.name print_here us) ws)
    moved us those ws =
        filter-map (λ w. not (goes_with x.1.name print_here us w)) (λ (w : ℕ × Want). off (those w.1.name w.1.print) w) ws
        ∙ ap (map (λ (w : ℕ × Want). off (those w.1.name w.1.print) w))
        (filter_same (λ w. not (goes_with x.1.name print_here us (off (those w.1.name w.1.print) w))) (λ w. not (goes_with x.1.name print_here us w))
        (λ w. ap (λ n. not (list_any (λ (r : ℕ × UploadRow). nat_eq r.0 n && goes x.1.name print_here r) us)) (upload_kept w (those w.1.name w.1.print))) ws)
      where
        upload_kept : (w : ℕ × Want) (b : Bool) → (off b w).1.upload ≡ w.1.upload
        upload_kept w true = refl
        upload_kept w false = refl

    either_goes : (w : ℕ × Want) → (ends_with away t.uploads w || goes_with x.1.name print_here (without (ends away) t.uploads) w) ≡ ends_with (more away x) t.uploads w
    either_goes w =
        ap (λ b. ends_with away t.uploads w || b) (list_any-filter (λ r. nat_eq r.0 w.1.upload && goes x.1.name print_here r) (λ r. not (ends away r)) t.uploads)
        ∙ sym (any_or (λ r. nat_eq r.0 w.1.upload && ends away r) (λ r. not (ends away r) && (nat_eq r.0 w.1.upload && goes x.1.name print_here r)) t.uploads)
        ∙ same_any (λ r. (nat_eq r.0 w.1.upload && ends away r) || (not (ends away r) && (nat_eq r.0 w.1.upload && goes x.1.name print_here r)))
        (λ r. nat_eq r.0 w.1.upload && ends (more away x) r)
        (λ r. or_under (nat_eq r.0 w.1.upload) (not (has_place r.1)) (away r.1.name r.1.print) (had t x r.1.name r.1.print)) t.uploads

    wants_more : without (goes_with x.1.name print_here (without (ends away) t.uploads)) (turned_off (had t x) (turned_off away (without (ends_with away t.uploads) t.wants)))
        ≡ turned_off (more away x) (without (ends_with (more away x) t.uploads) t.wants)
    wants_more =
        let us = without (ends away) t.uploads in
        let ws = without (ends_with away t.uploads) t.wants in
        ap (without (goes_with x.1.name print_here us)) (turned_more ws)
        ∙ moved us (more away x) ws
        ∙ ap (turned_off (more away x))
        (without_twice (ends_with away t.uploads) (goes_with x.1.name print_here us) (ends_with (more away x) t.uploads)
        (λ w. (sym (not_either (ends_with away t.uploads w) (goes_with x.1.name print_here us w))) ∙ ap not (either_goes w)) t.wants)

    one_gone : (left : Numbered ArrivalRow) → IsPrinted x → with_gone x (away_rows t away left) ≡ away_rows t (more away x) (without (λ r. nat_eq r.0 x.0) left)
    unfolding with_gone
    one_gone left is =
        let now : Tables = away_rows t away left in
        ap (λ o. option_map_or (λ print. without_request x.1.name print (with_away x.1.name print (without_arrival x.0 now))) o now) is
        ∙ request_gone x.1.name print_here (with_away x.1.name print_here (without_arrival x.0 now))
        (ascending-filter (λ a b. a.0 < b.0) (λ r. not (ends away r)) t.uploads up)
        (ascending-filter (λ a b. sign_in a.1 ≢ sign_in b.1) (λ r. not (ends away r)) t.uploads apart)
        ∙ (λ i. record t { arrivals = without (λ r. nat_eq r.0 x.0) left; uploads = uploads_more i; wants = wants_more i })

  -- ---- one after another

  all_gone : (gone : Numbered ArrivalRow) (away : Away) (left : Numbered ArrivalRow) → AllByRecursion IsPrinted gone
      → fold (λ now x. with_gone x now) (away_rows t away left) gone
      ≡ away_rows t (λ name print. away name print || list_any (λ x. had t x name print) gone) (without_each left gone)
  all_gone [] away left h = λ i. away_rows t (λ name print. (sym (or-false (away name print))) i) left
  all_gone (x ∷ gone) away left h =
      ap (λ s. fold (λ now y. with_gone y now) s gone) (one_gone away x left h.0)
      ∙ all_gone gone (more away x) (without (λ r. nat_eq r.0 x.0) left) h.1
      ∙ (λ i. away_rows t (λ name print. or_assoc (away name print) (had t x name print) (list_any (λ y. had t y name print) gone) i) (without_each (without (λ r. nat_eq r.0 x.0) left) gone))

  abbrev nothing : Away
  nothing = λ name print. false

  none_away : t ≡ away_rows t nothing t.arrivals
  none_away = λ i. record t { uploads = same_uploads i; wants = same_wants i }
    where
      same_uploads : t.uploads ≡ without (ends nothing) t.uploads
      same_uploads = sym (none_go (ends nothing) t.uploads (all_of (λ r. ends nothing r ≡ false) (λ r. and_right (not (has_place r.1)) false refl) t.uploads))

      none_with : (w : ℕ × Want) → ends_with nothing t.uploads w ≡ false
      none_with w =
          any_from_none (λ r. nat_eq r.0 w.1.upload && ends nothing r) t.uploads
          (all_of (λ r. (nat_eq r.0 w.1.upload && ends nothing r) ≡ false)
          (λ r. and_right (nat_eq r.0 w.1.upload) (ends nothing r) (and_right (not (has_place r.1)) false refl)) t.uploads)

      same_wants : t.wants ≡ turned_off nothing (without (ends_with nothing t.uploads) t.wants)
      same_wants =
          sym (map-id (without (ends_with nothing t.uploads) t.wants)
          ∙ none_go (ends_with nothing t.uploads) t.wants (all_of (λ w. ends_with nothing t.uploads w ≡ false) none_with t.wants))

  -- The rows once these arrivals have gone one after another.
  pub gone_rows : (gone : Numbered ArrivalRow) → AllByRecursion IsPrinted gone
      → fold (λ now x. with_gone x now) t gone ≡ away_rows t (λ name print. list_any (λ x. had t x name print) gone) (without_each t.arrivals gone)
  gone_rows gone h = ap (λ s. fold (λ now x. with_gone x now) s gone) none_away ∙ all_gone gone nothing t.arrivals h
