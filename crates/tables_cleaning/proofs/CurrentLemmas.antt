-- Which arrivals count at a moment, by their rows and by their names and prints.
use Rattle.std.proofs.Common.{◌≡◌, ◌≤◌, ℕ, Bool, true, false, not, ◌&&◌, List, map, filter, AllPairs, Contains, Option, Some, None, IsTrue, bytes_eq, nat_eq, refl, sym, ap, subst, ◌∙◌}
use Rattle.std.specs.List.{list_any}
use Rattle.std.specs.Option.{option_map_or}
use Rattle.std.proofs.lemmas.Bool.{and_from, and_parts, and_right, eq-eqb, false≢true}
use Rattle.std.proofs.lemmas.List.Elements.{All-contains, All-same}
use Rattle.std.proofs.lemmas.Slice.Eq.{bytes_eq-Decides}
use Rattle.std.proofs.Math.Bool.{and_comm, not-not}
use Rattle.sqlite_keyed.proofs.ListLemmas.{ascending-filter, filter-map, filter_same}
use Rattle.sums.specs.Prints.{print as print_of, same_print}
use Rattle.sums.specs.declared.entries.Entry.{Entry}
use Rattle.sums.specs.declared.print.Print.{Print}
use Rattle.sums.proofs.Members.{any_some, any_true, any_none}
use Rattle.sums.proofs.Words.{list_any-map}
use Rattle.book.specs.Book.{counts, current, is_body_of, is_there, latest}
use Rattle.book.specs.Keeping.{IsDeliverable}
use Rattle.book.proofs.Prints.{same_print-Decides}
use Rattle.tables.specs.Arrivals.{is_arrival}
use Rattle.tables.specs.Bodies.{body_with}
use Rattle.tables.specs.Rows.{Tables, rows_of}
use Rattle.tables.specs.declared.rows.ArrivalRow.{ArrivalRow}
use Rattle.tables.proofs.Pairwise.{ascending_from_pairs, pairs_from_ascending}
use Rattle.tables_meaning.specs.Cleaning.{counts_row, is_current, with_current}
use Rattle.tables_meaning.specs.Kept.{AreArrivals, AreStored, arrival_in, arrivals_in, bytes_of, has_body}
use Rattle.tables_meaning.proofs.ArrivalLemmas.{counts_as}
use Rattle.tables_meaning.proofs.BodyLemmas.{HasBody, apart_same, by_number, its_print, of_no_print, same_number}
use Rattle.book.proofs.Arrivals.{any_same}
use Rattle.tables_meaning.proofs.Searches.{any_weaker}
use Rattle.tables_meaning.proofs.ChangeLemmas.{some_of}
use Rattle.suites.proofs.ListTests.{same_tests, list_any-filter}

neither_print : (a b : Bool) → ((a && false) && b) ≡ false
neither_print true b = refl
neither_print false b = refl

-- the arrival has this name, and its body this print
abbrev pub bears : Tables → List ℕ → Print → ArrivalRow → Bool
bears t name print a = bytes_eq a.name name && same_print (print_of (bytes_of t a.body)) print

module _ (t : Tables) (stored : AreStored t) (arrivals : AreArrivals t) (seconds : Option ℕ) (moment : ℕ) where
  -- a body of this name and print has arrived and counts
  abbrev cur : List ℕ → Print → Bool
  cur name print = is_current seconds moment t name print

  abbrev counting : ArrivalRow → Bool
  counting a = counts_row seconds moment a

  its_body : (a : ArrivalRow) → Contains (rows_of t.arrivals) a → has_body t a.body ≡ true
  its_body a c = All-contains (λ a. IsTrue (has_body t a.body)) (rows_of t.arrivals) a arrivals.bodies c

  current_by : (name : List ℕ) (print : Print) → cur name print ≡ list_any (λ a. bears t name print a && counting a) (rows_of t.arrivals)
  unfolding is_current
  current_by name print = by (body_with print t.bodies) refl
    where
      by : (o : Option ℕ) → body_with print t.bodies ≡ o
          → option_map_or (λ body. list_any (λ a. is_arrival name body a && counting a) (rows_of t.arrivals)) o false ≡ list_any (λ a. bears t name print a && counting a) (rows_of t.arrivals)
      by None is =
          sym (any_none (λ a. bears t name print a && counting a) (rows_of t.arrivals)
          (λ a c. ap (λ q. (bytes_eq a.name name && q) && counting a) (of_no_print t stored print is a.body (its_body a c)) ∙ neither_print (bytes_eq a.name name) (counting a)))
      by (Some found) is =
          any_same (λ a. is_arrival name found a && counting a) (λ a. bears t name print a && counting a) (rows_of t.arrivals)
          (λ a c. ap (λ q. (bytes_eq a.name name && q) && counting a) (by_number t stored print found is a.body (its_body a c)))

  -- ---- what is there

  pub there_by : (e : Entry) → is_there (arrivals_in t) e ≡ list_any (bears t e.name e.print) (rows_of t.arrivals)
  unfolding is_there is_body_of arrivals_in
  there_by e = list_any-map (arrival_in t) (is_body_of e) (rows_of t.arrivals)

  -- a listed file is there and counts exactly if it is there among those that count
  pub current_there : (e : Entry) → cur e.name e.print ≡ is_there (current seconds moment (arrivals_in t)) e
  unfolding is_there is_body_of current arrivals_in
  current_there e =
      current_by e.name e.print
      ∙ any_same (λ a. bears t e.name e.print a && counting a) (λ a. counts seconds moment (arrival_in t a) && is_body_of e (arrival_in t a)) (rows_of t.arrivals)
      (λ a c. ap (λ q. bears t e.name e.print a && q) (counts_as t seconds moment a) ∙ and_comm (bears t e.name e.print a) (counts seconds moment (arrival_in t a)))
      ∙ sym (list_any-map (arrival_in t) (λ b. counts seconds moment b && is_body_of e b) (rows_of t.arrivals))
      ∙ sym (list_any-filter (is_body_of e) (counts seconds moment) (map (arrival_in t) (rows_of t.arrivals)))

  -- what is there among those that count is there
  pub in_all : (e : Entry) → is_there (current seconds moment (arrivals_in t)) e ≡ true → is_there (arrivals_in t) e ≡ true
  unfolding is_there current
  in_all e h =
      any_weaker (λ a. counts seconds moment a && is_body_of e a) (is_body_of e) (λ a both. (and_parts (counts seconds moment a) (is_body_of e a) both).1) (arrivals_in t)
      (sym (list_any-filter (is_body_of e) (counts seconds moment) (arrivals_in t)) ∙ h)

  pub there_then : (e : Entry) → is_there (current seconds moment (arrivals_in t)) e ≡ (is_there (arrivals_in t) e && cur e.name e.print)
  there_then e = go (is_there (current seconds moment (arrivals_in t)) e) refl ∙ ap (λ b. is_there (arrivals_in t) e && b) (sym (current_there e))
    where
      go : (b : Bool) → is_there (current seconds moment (arrivals_in t)) e ≡ b → b ≡ (is_there (arrivals_in t) e && b)
      go true h = sym (ap (λ a. a && true) (in_all e h))
      go false h = sym (and_right (is_there (arrivals_in t) e) false refl)

  -- ---- one row for a name and a print

  pub bears_is : (name : List ℕ) (print : Print) (a : ArrivalRow) → bears t name print a ≡ true → (a.name ≡ name) × (print_of (bytes_of t a.body) ≡ print)
  bears_is name print a h =
      let parts = and_parts (bytes_eq a.name name) (same_print (print_of (bytes_of t a.body)) print) h in
      ((bytes_eq-Decides a.name name).0 parts.0, (same_print-Decides (print_of (bytes_of t a.body)) print).0 parts.1)

  pub bears_itself : (a : ArrivalRow) → bears t a.name (print_of (bytes_of t a.body)) a ≡ true
  bears_itself a =
      and_from (bytes_eq a.name a.name) (same_print (print_of (bytes_of t a.body)) (print_of (bytes_of t a.body)))
      ((bytes_eq-Decides a.name a.name).1 refl) ((same_print-Decides (print_of (bytes_of t a.body)) (print_of (bytes_of t a.body))).1 refl)

  one_row : (name : List ℕ) (print : Print) (a b : ArrivalRow) → Contains (rows_of t.arrivals) a → Contains (rows_of t.arrivals) b → bears t name print a ≡ true → bears t name print b ≡ true → a ≡ b
  one_row name print a b ca cb p q =
      apart_same (λ (x y : ArrivalRow). is_arrival x.name x.body y ≡ false) (rows_of t.arrivals) arrivals.apart a b ca cb
      (λ no. false≢true (sym no ∙ alike a b ca cb p q)) (λ no. false≢true (sym no ∙ alike b a cb ca q p))
    where
      with_print : (x : ArrivalRow) → Contains (rows_of t.arrivals) x → bears t name print x ≡ true → HasBody t.bodies x.body print
      with_print x c h = subst (HasBody t.bodies x.body) (bears_is name print x h).1 (its_print t stored x.body (its_body x c))

      alike : (x y : ArrivalRow) → Contains (rows_of t.arrivals) x → Contains (rows_of t.arrivals) y → bears t name print x ≡ true → bears t name print y ≡ true → is_arrival x.name x.body y ≡ true
      alike x y cx cy p q =
          and_from (bytes_eq y.name x.name) (nat_eq y.body x.body)
          ((bytes_eq-Decides y.name x.name).1 ((bears_is name print y q).0 ∙ sym (bears_is name print x p).0))
          (eq-eqb y.body x.body (same_number t stored y.body x.body print (with_print y cy q) (with_print x cx p)))

  -- what is true of some arrival of a name and print is true of its one row
  pub of_one_row : (test : ArrivalRow → Bool) (name : List ℕ) (print : Print) (a : ArrivalRow) → Contains (rows_of t.arrivals) a → bears t name print a ≡ true
      → list_any (λ x. bears t name print x && test x) (rows_of t.arrivals) ≡ test a
  of_one_row test name print a c h =
      same_tests (list_any (λ x. bears t name print x && test x) (rows_of t.arrivals)) (test a)
      (λ some.
      let x = any_some (λ x. bears t name print x && test x) (rows_of t.arrivals) some in
      let parts = and_parts (bears t name print x.0) (test x.0) x.2 in
      subst (λ y. test y ≡ true) (one_row name print x.0 a x.1 c parts.0 h) parts.1)
      (λ passes. any_true (λ x. bears t name print x && test x) (rows_of t.arrivals) a c (and_from (bears t name print a) (test a) h passes))

  -- its name and print count exactly if the row does
  pub own_counts : (name : List ℕ) (print : Print) (a : ArrivalRow) → Contains (rows_of t.arrivals) a → bears t name print a ≡ true → cur name print ≡ counting a
  own_counts name print a c h = current_by name print ∙ of_one_row counting name print a c h

  -- ---- the arrivals that are left

  abbrev now : Tables
  now = with_current seconds moment t

  pub rows_left : rows_of now.arrivals ≡ filter counting (rows_of t.arrivals)
  unfolding with_current
  rows_left =
      ap (map (λ x. x.1)) (filter_same (λ x. not (not (counting x.1))) (λ x. counting x.1) (λ x. not-not (counting x.1)) t.arrivals)
      ∙ sym (filter-map counting (λ x. x.1) t.arrivals)

  pub arrivals_current : arrivals_in now ≡ current seconds moment (arrivals_in t)
  unfolding arrivals_in current with_current bytes_of
  arrivals_current =
      ap (map (arrival_in t)) rows_left
      ∙ ap (map (arrival_in t)) (filter_same counting (λ a. counts seconds moment (arrival_in t a)) (counts_as t seconds moment) (rows_of t.arrivals))
      ∙ sym (filter-map (counts seconds moment) (arrival_in t) (rows_of t.arrivals))

  pub arrivals_left : AreArrivals now
  unfolding has_body with_current current
  arrivals_left = record {
    bodies = All-same (λ a. IsTrue (has_body now a.body)) (rows_of now.arrivals) (filter counting (rows_of t.arrivals)) rows_left
        (some_of (λ a. IsTrue (has_body t a.body)) counting (rows_of t.arrivals) arrivals.bodies);
    apart = subst (AllPairs (λ (x y : ArrivalRow). is_arrival x.name x.body y ≡ false)) (sym rows_left)
        (pairs_from_ascending (λ (x y : ArrivalRow). is_arrival x.name x.body y ≡ false) (filter counting (rows_of t.arrivals))
        (ascending-filter (λ (x y : ArrivalRow). is_arrival x.name x.body y ≡ false) counting (rows_of t.arrivals)
        (ascending_from_pairs (λ (x y : ArrivalRow). is_arrival x.name x.body y ≡ false) (rows_of t.arrivals) arrivals.apart)));
    deliverable = All-same (λ a. IsDeliverable a.name a.body × (a.moment ≤ latest)) (arrivals_in now) (filter (counts seconds moment) (arrivals_in t)) arrivals_current
        (some_of (λ a. IsDeliverable a.name a.body × (a.moment ≤ latest)) (counts seconds moment) (arrivals_in t) arrivals.deliverable);
  }
