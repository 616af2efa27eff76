-- What a delivery makes of the bodies and the arrivals.
use Rattle.std.proofs.Common.{◌≡◌, ◌⊎◌, inl, inr, ℕ, ◌<◌, ◌≤◌, Bool, true, false, ◌||◌, ◌&&◌, List, [], ◌∷◌, ◌++◌, map, find, length, get_or, All, AllPairs, Contains, Option, Some, None, is_some, IsTrue, refl, sym, ap, subst, ◌∙◌, arith, bytes_eq}
use Rattle.std.specs.Prelude.{nat_eq, nat_lt, if◌then◌else◌}
use Rattle.std.specs.List.{list_any}
use Rattle.std.specs.Option.{option_map_or, unwrap_or}
use Rattle.std.proofs.lemmas.Bool.{and_right, eq-eqb, false_from_ne_true, false≢true, or_right}
use Rattle.std.proofs.lemmas.Bool.Decides.{Decides-and, Decides-eqb, Decides-like, same_from_decides}
use Rattle.std.proofs.lemmas.List.{get_or-map, length-map, map_push}
use Rattle.std.proofs.lemmas.List.Elements.{All-contains, All-map, All-push, All-same, All-weaker}
use Rattle.std.proofs.lemmas.List.Folds.{list_any-append, map_fixed}
use Rattle.std.proofs.lemmas.List.Quantifiers.{all_pairs_push}
use Rattle.std.proofs.lemmas.Slice.Eq.{bytes_eq-Decides}
use Rattle.std.proofs.Math.Bool.{and_comm}
use Rattle.sqlite_keyed.proofs.ListLemmas.{map-map}
use Rattle.sums.specs.Prints.{print as print_of, same_print}
use Rattle.sums.specs.declared.entries.Entry.{Entry}
use Rattle.sums.specs.declared.print.Print.{Print}
use Rattle.sums.proofs.Members.{any_none, any_true, contains_map}
use Rattle.sums.proofs.Words.{list_any-map}
use Rattle.book.specs.Book.{at_latest, counts, counts_since, current, has_arrival, is_body_of, is_same_pair, is_there, latest, with_arrival}
use Rattle.book.specs.Keeping.{IsDeliverable}
use Rattle.book.specs.declared.arrival.Arrival.{Arrival}
use Rattle.book.proofs.Finds.{is_some_of_find}
use Rattle.tables.specs.Arrivals.{is_arrival, with_moment}
use Rattle.tables.specs.Bodies.{body_with}
use Rattle.tables.specs.Rows.{Tables, Numbered, Rises, added, next_in, rows_of, with_want, with_upload}
use Rattle.tables.specs.Rows as tables
use Rattle.tables.specs.Uploads.{is_upload}
use Rattle.tables.specs.Wants.{with_here}
use Rattle.tables.specs.declared.rows.ArrivalRow.{ArrivalRow}
use Rattle.tables.specs.declared.rows.BodyRow.{BodyRow}
use Rattle.tables.specs.declared.rows.UploadRow.{UploadRow}
use Rattle.tables.specs.declared.rows.Want.{Want}
use Rattle.suites.proofs.ListTests.{list_any-filter}
use Rattle.indices.proofs.Pairs.{pairs_unmap, same_map_over}
use Rattle.tables_meaning.specs.Cleaning.{counts_row}
use Rattle.tables_meaning.specs.Kept.{AreArrivals, AreBodies, AreNumbered, AreStored, arrival_in, arrivals_in, bytes_of, has_body, is_used, print_at}
use Rattle.tables_meaning.specs.Making.{is_here, number_with, with_arrived, with_bytes, with_delivered, with_requested, with_wants}
use Rattle.tables_meaning.proofs.BodyLemmas.{HasBody, Stores, all_if, apart_same, are_stored, arrived_used, body_found, by_number, found, has_body_if, its_print, none_found, of_no_print, row_of_found, rows_added, same_number, same_row, stores, used_on}
use Rattle.book.proofs.Arrivals.{any_same}

-- ---- lists

-- what holds of each image holds of each element
pub all_unmapped : {X Y : Type 0} (P : X → Type 0) (f : Y → X) (ys : List Y) → All P (map f ys) → All (λ y. P (f y)) ys
all_unmapped P f ys h k d lt = subst P (get_or-map f ys k d (f d) lt) (h k (f d) (omega (arith, length-map ys f)))

pairs_mapped : {X Y : Type 0} (R : X → X → Type 0) (f : Y → X) (ys : List Y) → AllPairs (λ y z. R (f y) (f z)) ys → AllPairs R (map f ys)
pairs_mapped R f [] h i j d lt within = absurd (omega arith)
pairs_mapped R f (y ∷ ys) h i j d lt within =
    let late : j < length (y ∷ ys) = omega (arith, length-map (y ∷ ys) f) in
    let early : i < length (y ∷ ys) = omega arith in
    subst (λ x. R x (get_or (map f (y ∷ ys)) j d)) (sym (get_or-map f (y ∷ ys) i y d early))
    (subst (λ x. R (f (get_or (y ∷ ys) i y)) x) (sym (get_or-map f (y ∷ ys) j y d late)) (h i j y lt late))

-- ---- the row of an arrival, by name and body

-- A body of these bytes is there under this number.
pub record HasBytes (t : Tables) (bytes : List ℕ) (id : ℕ) : Type 0 where
  pub stored : AreStored t
  pub found : body_with (print_of bytes) t.bodies ≡ Some id
  pub are : bytes_of t id ≡ bytes

pub has_bytes : (t now : Tables) (bytes : List ℕ) (id : ℕ) → Stores t now bytes id → HasBytes now bytes id
has_bytes t now bytes id h = record { stored = h.stored; found = h.found; are = h.bytes_are }

same_pair : (t : Tables) (name bytes : List ℕ) (moment id : ℕ) → HasBytes t bytes id → (x : ArrivalRow) → has_body t x.body ≡ true
    → is_arrival name id x ≡ is_same_pair (record { name = name; body = bytes; moment = moment }) (arrival_in t x)
unfolding is_same_pair
same_pair t name bytes moment id h x is =
    same_from_decides {P = (x.name ≡ name) × (x.body ≡ id)} (bytes_eq x.name name && nat_eq x.body id) (bytes_eq name x.name && bytes_eq bytes (bytes_of t x.body))
    (Decides-and (bytes_eq x.name name) (nat_eq x.body id) (bytes_eq-Decides x.name name) (Decides-eqb x.body id))
    (Decides-like (bytes_eq name x.name && bytes_eq bytes (bytes_of t x.body))
    (λ s. (sym s.0, same_number t h.stored x.body id (print_of bytes) (subst (λ l. HasBody t.bodies x.body (print_of l)) (sym s.1) (its_print t h.stored x.body is)) (body_found (print_of bytes) t.bodies id h.found)))
    (λ s. (sym s.0, sym (ap (bytes_of t) s.1 ∙ h.are)))
    (Decides-and (bytes_eq name x.name) (bytes_eq bytes (bytes_of t x.body)) (bytes_eq-Decides name x.name) (bytes_eq-Decides bytes (bytes_of t x.body))))

-- two arrivals of one pair have the same name and body
pub alike : (name : List ℕ) (id : ℕ) (a b : ArrivalRow) → is_arrival name id a ≡ true → is_arrival name id b ≡ true → is_arrival a.name a.body b ≡ true
alike name id a b p q =
    let first = (Decides-and (bytes_eq a.name name) (nat_eq a.body id) (bytes_eq-Decides a.name name) (Decides-eqb a.body id)).0 p in
    let second = (Decides-and (bytes_eq b.name name) (nat_eq b.body id) (bytes_eq-Decides b.name name) (Decides-eqb b.body id)).0 q in
    (Decides-and (bytes_eq b.name a.name) (nat_eq b.body a.body) (bytes_eq-Decides b.name a.name) (Decides-eqb b.body a.body)).1 (second.0 ∙ sym first.0, second.1 ∙ sym first.1)

-- ---- what counts

-- a row counts exactly if its arrival does
pub counts_as : (t : Tables) (seconds : Option ℕ) (at : ℕ) (a : ArrivalRow) → counts_row seconds at a ≡ counts seconds at (arrival_in t a)
unfolding counts_since counts_row
counts_as t None at a = refl
counts_as t (Some s) at a = refl

-- ---- an arrival

-- What is left once a body has arrived under a name: the arrivals are those of the book, each body that was used is
-- still used and this one too, and no other table is changed.
pub record Arrives (t : Tables) (name bytes : List ℕ) (moment id : ℕ) (after : Tables) : Type 0 where
  pub arrivals : AreArrivals after
  pub arrived : arrivals_in after ≡ with_arrival (arrivals_in t) (record { name = name; body = bytes; moment = moment })
  pub uses_kept : (n : ℕ) → IsTrue (list_any (λ a. nat_eq a.body n) (rows_of t.arrivals)) → IsTrue (list_any (λ a. nat_eq a.body n) (rows_of after.arrivals))
  pub uses_it : IsTrue (list_any (λ a. nat_eq a.body id) (rows_of after.arrivals))
  pub only : after ≡ record t { arrivals = after.arrivals }

module _ (t : Tables) (up : Rises t.arrivals) (h : AreArrivals t) (name bytes : List ℕ) (moment id : ℕ) (has : HasBytes t bytes id) where
  abbrev it : Arrival
  it = record { name = name; body = bytes; moment = moment }

  abbrev is_it : ℕ × ArrivalRow → Bool
  is_it x = is_arrival name id x.1

  its_body : (x : ℕ × ArrivalRow) → Contains t.arrivals x → has_body t x.1.body ≡ true
  its_body x c = All-contains (λ (x : ℕ × ArrivalRow). IsTrue (has_body t x.1.body)) t.arrivals x (all_unmapped (λ a. IsTrue (has_body t a.body)) (λ x. x.1) t.arrivals h.bodies) c

  tells : (x : ℕ × ArrivalRow) → Contains t.arrivals x → is_it x ≡ is_same_pair it (arrival_in t x.1)
  tells x c = same_pair t name bytes moment id has x.1 (its_body x c)

  pub is_known : list_any is_it t.arrivals ≡ has_arrival (arrivals_in t) it
  unfolding has_arrival arrivals_in
  is_known =
      any_same is_it (λ x. is_same_pair it (arrival_in t x.1)) t.arrivals tells
      ∙ sym (list_any-map (λ x. x.1) (λ a. is_same_pair it (arrival_in t a)) t.arrivals)
      ∙ sym (list_any-map (arrival_in t) (is_same_pair it) (rows_of t.arrivals))

  -- whether the arrival is known among those that count at a moment
  pub is_known_at : (seconds : Option ℕ) (at : ℕ) → list_any (λ x. is_it x && counts_row seconds at x.1) t.arrivals ≡ has_arrival (current seconds at (arrivals_in t)) it
  unfolding has_arrival arrivals_in current
  is_known_at seconds at =
      any_same (λ x. is_it x && counts_row seconds at x.1) (λ x. counts seconds at (arrival_in t x.1) && is_same_pair it (arrival_in t x.1)) t.arrivals
      (λ x c. (λ i. tells x c i && counts_as t seconds at x.1 i) ∙ and_comm (is_same_pair it (arrival_in t x.1)) (counts seconds at (arrival_in t x.1)))
      ∙ sym (list_any-map (λ x. x.1) (λ a. counts seconds at (arrival_in t a) && is_same_pair it (arrival_in t a)) t.arrivals)
      ∙ sym (list_any-map (arrival_in t) (λ b. counts seconds at b && is_same_pair it b) (rows_of t.arrivals))
      ∙ sym (list_any-filter (is_same_pair it) (counts seconds at) (map (arrival_in t) (rows_of t.arrivals)))

  -- the row with the greater moment, if it is the one that arrives
  abbrev settled : ℕ × ArrivalRow → ℕ × ArrivalRow
  settled x = (x.0, record x.1 { moment = if is_it x && nat_lt x.1.moment moment then moment else x.1.moment })

  abbrev known : Tables
  known = record t { arrivals = map settled t.arrivals }

  abbrev new_row : ArrivalRow
  new_row = record { name = name; body = id; moment = moment }

  abbrev new : Tables
  new = record t { arrivals = added t.arrivals new_row }

  -- two rows that are the arrival are the same row
  one_row : (x y : ℕ × ArrivalRow) → Contains t.arrivals x → Contains t.arrivals y → is_it x ≡ true → is_it y ≡ true → x ≡ y
  one_row x y cx cy p q =
      apart_same (λ (a b : ℕ × ArrivalRow). is_arrival a.1.name a.1.body b.1 ≡ false) t.arrivals (pairs_unmap (λ a b. is_arrival a.name a.body b ≡ false) (λ x. x.1) t.arrivals h.apart) x y cx cy
      (λ no. false≢true (sym no ∙ alike name id x.1 y.1 p q)) (λ no. false≢true (sym no ∙ alike name id y.1 x.1 q p))

  -- the row of a number is the arrival exactly if it has the number of the one that was found
  by_rowid : (x y : ℕ × ArrivalRow) → Contains t.arrivals x → Contains t.arrivals y → is_it x ≡ true → nat_eq y.0 x.0 ≡ is_it y
  by_rowid x y cx cy p =
      same_from_decides {P = y ≡ x} (nat_eq y.0 x.0) (is_it y)
      (Decides-like (nat_eq y.0 x.0) (λ e. same_row t.arrivals up y x cy cx e) (λ e. ap (λ z. z.0) e) (Decides-eqb y.0 x.0))
      ((λ q. one_row y x cy cx q p), (λ e. ap is_it e ∙ p))

  -- a row that is the arrival is the one that was found
  its_moment : (x y : ℕ × ArrivalRow) → Contains t.arrivals x → Contains t.arrivals y → is_it x ≡ true → is_it y ≡ true → (later : Bool) → nat_lt x.1.moment moment ≡ later → nat_lt y.1.moment moment ≡ later
  its_moment x y cx cy p q later e = ap (λ z. nat_lt z.1.moment moment) (one_row y x cy cx q p) ∙ e

  raised : (x y : ℕ × ArrivalRow) → Contains t.arrivals x → Contains t.arrivals y → is_it x ≡ true → nat_lt x.1.moment moment ≡ true
      → (if nat_eq y.0 x.0 then (y.0, record y.1 { moment = moment }) else y) ≡ settled y
  raised x y cx cy p e =
      ap (λ b. if b then (y.0, record y.1 { moment = moment }) else y) (by_rowid x y cx cy p)
      ∙ by (is_it y) refl
    where
      by : (b : Bool) → is_it y ≡ b → (if b then (y.0, record y.1 { moment = moment }) else y) ≡ (y.0, record y.1 { moment = if b && nat_lt y.1.moment moment then moment else y.1.moment })
      by true q = ap (λ (l : Bool). (y.0, record y.1 { moment = if l then moment else y.1.moment })) (sym (its_moment x y cx cy p q true e))
      by false q = refl

  left : (x y : ℕ × ArrivalRow) → Contains t.arrivals x → Contains t.arrivals y → is_it x ≡ true → nat_lt x.1.moment moment ≡ false → settled y ≡ y
  left x y cx cy p e = by (is_it y) refl
    where
      by : (b : Bool) → is_it y ≡ b → (y.0, record y.1 { moment = if b && nat_lt y.1.moment moment then moment else y.1.moment }) ≡ y
      by true q = ap (λ (l : Bool). (y.0, record y.1 { moment = if l then moment else y.1.moment })) (its_moment x y cx cy p q false e)
      by false q = refl

  -- the row that was found gets the greater moment
  becomes : (x : ℕ × ArrivalRow) → Contains t.arrivals x → is_it x ≡ true → (later : Bool) → nat_lt x.1.moment moment ≡ later
      → (if later then with_moment x.0 moment t else t) ≡ known
  becomes x c p true e =
      ap (λ l. record t { arrivals = l })
      (same_map_over (λ y. if nat_eq y.0 x.0 then (y.0, record y.1 { moment = moment }) else y) settled t.arrivals (λ y cy. raised x y c cy p e))
  becomes x c p false e = ap (λ l. record t { arrivals = l }) (sym (map_fixed settled t.arrivals (all_if (λ y. settled y ≡ y) t.arrivals (λ y cy. left x y c cy p e))))

  -- what the book shows of a row that is there
  shown_known : (x : ℕ × ArrivalRow) → Contains t.arrivals x
      → arrival_in known (settled x).1 ≡ (if is_same_pair it (arrival_in t x.1) then at_latest moment (arrival_in t x.1) else arrival_in t x.1)
  unfolding bytes_of
  shown_known x c =
      by (is_it x) ∙ ap (λ (b : Bool). if b then at_latest moment (arrival_in t x.1) else arrival_in t x.1) (tells x c)
    where
      by : (b : Bool) → record { name = x.1.name; body = bytes_of t x.1.body; moment = if b && nat_lt x.1.moment moment then moment else x.1.moment }
          ≡ (if b then at_latest moment (arrival_in t x.1) else arrival_in t x.1)
      by true = refl
      by false = refl

  arrivals_known : arrivals_in known ≡ map (λ b. if is_same_pair it b then at_latest moment b else b) (arrivals_in t)
  unfolding arrivals_in
  arrivals_known =
      ap (map (arrival_in known)) (map-map (λ x. x.1) settled t.arrivals)
      ∙ map-map (arrival_in known) (λ x. (settled x).1) t.arrivals
      ∙ same_map_over (λ x. arrival_in known (settled x).1) (λ x. if is_same_pair it (arrival_in t x.1) then at_latest moment (arrival_in t x.1) else arrival_in t x.1) t.arrivals shown_known
      ∙ sym (map-map (λ a. if is_same_pair it (arrival_in t a) then at_latest moment (arrival_in t a) else arrival_in t a) (λ x. x.1) t.arrivals)
      ∙ sym (map-map (λ b. if is_same_pair it b then at_latest moment b else b) (arrival_in t) (rows_of t.arrivals))

  arrivals_new : arrivals_in new ≡ arrivals_in t ++ it ∷ []
  unfolding arrivals_in bytes_of
  arrivals_new =
      ap (map (arrival_in new)) (rows_added t.arrivals new_row)
      ∙ map_push (arrival_in new) (rows_of t.arrivals) new_row
      ∙ ap (λ (l : List ℕ). map (arrival_in t) (rows_of t.arrivals) ++ record { name = name; body = l; moment = moment } ∷ []) has.are

  module _ (deliverable : IsDeliverable name bytes) (in_range : moment ≤ latest) where
    abbrev IsFit : Arrival → Type 0
    IsFit a = IsDeliverable a.name a.body × (a.moment ≤ latest)

    still_fit : (a : Arrival) → IsFit a → IsFit (if is_same_pair it a then at_latest moment a else a)
    still_fit a fit = by (is_same_pair it a) (nat_lt a.moment moment)
      where
        by : (b l : Bool) → IsFit (if b then record { name = a.name; body = a.body; moment = if l then moment else a.moment } else a)
        by true true = (fit.0, in_range)
        by true false = fit
        by false l = fit

    fit_known : All IsFit (arrivals_in known)
    fit_known =
        All-same IsFit (arrivals_in known) _ arrivals_known
        (All-map IsFit (λ b. if is_same_pair it b then at_latest moment b else b) (arrivals_in t) (All-weaker IsFit _ still_fit (arrivals_in t) h.deliverable))

    fit_new : All IsFit (arrivals_in new)
    fit_new = All-same IsFit (arrivals_in new) (arrivals_in t ++ it ∷ []) arrivals_new (All-push IsFit (arrivals_in t) it h.deliverable (deliverable, in_range))

    if_known : (x : ℕ × ArrivalRow) → find is_it t.arrivals ≡ Some x → Arrives t name bytes moment id known
    unfolding with_arrival has_body
    if_known x e =
        let it_is = found is_it t.arrivals x e in
        let any : has_arrival (arrivals_in t) it ≡ true = sym is_known ∙ any_true is_it t.arrivals x it_is.within it_is.passes in
        record {
          arrivals = record {
            bodies = All-map (λ a. IsTrue (has_body known a.body)) (λ x. x.1) (map settled t.arrivals)
                (All-map (λ (x : ℕ × ArrivalRow). IsTrue (has_body known x.1.body)) settled t.arrivals (all_unmapped (λ a. IsTrue (has_body t a.body)) (λ x. x.1) t.arrivals h.bodies));
            apart = pairs_mapped (λ a b. is_arrival a.name a.body b ≡ false) (λ x. x.1) (map settled t.arrivals)
                (pairs_mapped (λ (x y : ℕ × ArrivalRow). is_arrival x.1.name x.1.body y.1 ≡ false) settled t.arrivals (pairs_unmap (λ a b. is_arrival a.name a.body b ≡ false) (λ x. x.1) t.arrivals h.apart));
            deliverable = fit_known;
          };
          arrived = arrivals_known ∙ ap (λ (b : Bool). if b then map (λ b. if is_same_pair it b then at_latest moment b else b) (arrivals_in t) else arrivals_in t ++ it ∷ []) (sym any);
          uses_kept = λ n used. same_uses n ∙ used;
          uses_it = same_uses id ∙ any_true (λ a. nat_eq a.body id) (rows_of t.arrivals) x.1 (contains_map (λ y. y.1) x t.arrivals it_is.within) (eq-eqb x.1.body id ((Decides-and (bytes_eq x.1.name name) (nat_eq x.1.body id) (bytes_eq-Decides x.1.name name) (Decides-eqb x.1.body id)).0 it_is.passes).1);
          only = refl;
        }
      where
        same_uses : (n : ℕ) → list_any (λ a. nat_eq a.body n) (rows_of known.arrivals) ≡ list_any (λ a. nat_eq a.body n) (rows_of t.arrivals)
        same_uses n =
            list_any-map (λ x. x.1) (λ a. nat_eq a.body n) (map settled t.arrivals)
            ∙ list_any-map settled (λ (x : ℕ × ArrivalRow). nat_eq x.1.body n) t.arrivals
            ∙ sym (list_any-map (λ x. x.1) (λ a. nat_eq a.body n) t.arrivals)

    if_new : find is_it t.arrivals ≡ None → Arrives t name bytes moment id new
    unfolding with_arrival has_body
    if_new e =
        let none : has_arrival (arrivals_in t) it ≡ false = sym is_known ∙ sym (is_some_of_find is_it t.arrivals) ∙ ap is_some e in
        record {
          arrivals = record {
            bodies = All-same (λ a. IsTrue (has_body new a.body)) (rows_of new.arrivals) (rows_of t.arrivals ++ new_row ∷ []) (rows_added t.arrivals new_row)
                (All-push (λ a. IsTrue (has_body t a.body)) (rows_of t.arrivals) new_row h.bodies (has_body_if t id (row_of_found (body_found (print_of bytes) t.bodies id has.found))));
            apart = subst (AllPairs (λ a b. is_arrival a.name a.body b ≡ false)) (sym (rows_added t.arrivals new_row))
                (all_pairs_push (λ a b. is_arrival a.name a.body b ≡ false) (rows_of t.arrivals) new_row h.apart (λ k d lt. other (get_or (rows_of t.arrivals) k d) (all_other k d lt)));
            deliverable = fit_new;
          };
          arrived = arrivals_new ∙ ap (λ (b : Bool). if b then map (λ b. if is_same_pair it b then at_latest moment b else b) (arrivals_in t) else arrivals_in t ++ it ∷ []) (sym none);
          uses_kept = λ n used. uses n ∙ ap (λ b. b || (nat_eq id n || false)) used;
          uses_it = uses id ∙ or_right (list_any (λ a. nat_eq a.body id) (rows_of t.arrivals)) _ (or_from_left (nat_eq id id) (eq-eqb id id refl));
          only = refl;
        }
      where
        all_other : All (λ a. is_arrival name id a ≡ false) (rows_of t.arrivals)
        all_other = All-map (λ a. is_arrival name id a ≡ false) (λ x. x.1) t.arrivals (all_if (λ x. is_it x ≡ false) t.arrivals (none_found is_it t.arrivals e))

        other : (a : ArrivalRow) → is_arrival name id a ≡ false → is_arrival a.name a.body new_row ≡ false
        other a differs = false_from_ne_true (is_arrival a.name a.body new_row) (λ yes.
            let both = (Decides-and (bytes_eq name a.name) (nat_eq id a.body) (bytes_eq-Decides name a.name) (Decides-eqb id a.body)).0 yes in
            false≢true (sym differs ∙ (Decides-and (bytes_eq a.name name) (nat_eq a.body id) (bytes_eq-Decides a.name name) (Decides-eqb a.body id)).1 (sym both.0, sym both.1)))

        or_from_left : (x : Bool) → x ≡ true → x || false ≡ true
        or_from_left x e = ap (λ x. x || false) e

        uses : (n : ℕ) → list_any (λ a. nat_eq a.body n) (rows_of new.arrivals) ≡ (list_any (λ a. nat_eq a.body n) (rows_of t.arrivals) || (nat_eq id n || false))
        uses n = ap (list_any (λ a. nat_eq a.body n)) (rows_added t.arrivals new_row) ∙ list_any-append (λ a. nat_eq a.body n) (rows_of t.arrivals) (new_row ∷ [])

    pub arrives : Arrives t name bytes moment id (with_arrived name id moment t)
    unfolding with_arrived
    arrives = by (find is_it t.arrivals) refl
      where
        by : (o : Option (ℕ × ArrivalRow)) → find is_it t.arrivals ≡ o
            → Arrives t name bytes moment id (option_map_or (λ x. if nat_lt x.1.moment moment then with_moment x.0 moment t else t) o (tables.with_arrival new_row t))
        by None e = if_new e
        by (Some x) e =
            let it_is = found is_it t.arrivals x e in
            subst (Arrives t name bytes moment id) (sym (becomes x it_is.within it_is.passes (nat_lt x.1.moment moment) refl)) (if_known x e)

-- ---- a delivery

-- what an upload wants is kept beside the rest
only_wants : (upload : ℕ) (entries : List Entry) (t : Tables) → with_wants upload entries t ≡ record t { wants = (with_wants upload entries t).wants }
only_wants upload [] t = refl
only_wants upload (e ∷ es) t = only_wants upload es (with_want (record { upload = upload; name = e.name; print = e.print; here = is_here t e }) t)

only_requested : (name : List ℕ) (print : Print) (entries : List Entry) (t : Tables)
    → with_requested name print entries t ≡ record t { uploads = (with_requested name print entries t).uploads; wants = (with_requested name print entries t).wants }
unfolding with_requested
only_requested name print entries t = by (list_any (is_upload name print) (rows_of t.uploads))
  where
    asked : Tables
    asked = with_wants (next_in t.uploads) entries (with_upload (record { name = name; print = print; place = None; verdict = None }) t)

    by : (b : Bool) → (if b then t else asked) ≡ record t { uploads = (if b then t else asked).uploads; wants = (if b then t else asked).wants }
    by true = refl
    by false =
        let u : UploadRow = record { name = name; print = print; place = None; verdict = None } in
        let is = only_wants (next_in t.uploads) entries (with_upload u t) in
        is ∙ ap (λ l. record t { uploads = l; wants = asked.wants }) (sym (ap (λ (x : Tables). x.uploads) is))

-- the bodies and the arrivals after a delivery
abbrev pub arrived_in : List ℕ → List ℕ → ℕ → Tables → Tables
arrived_in name bytes moment t =
    let stored = with_bytes (print_of bytes) bytes t in with_arrived name (number_with (print_of bytes) stored) moment stored

-- what is wanted changes no other tables than uploads and wants
pub beside_uploads : (name bytes : List ℕ) (moment : ℕ) (listed : Option (List Entry)) (t : Tables)
    → with_delivered name (print_of bytes) bytes moment listed t
    ≡ record (arrived_in name bytes moment t) { uploads = (with_delivered name (print_of bytes) bytes moment listed t).uploads; wants = (with_delivered name (print_of bytes) bytes moment listed t).wants }
unfolding with_delivered
beside_uploads name bytes moment listed t = by listed
  where
    marked : Tables
    marked = with_here name (print_of bytes) (arrived_in name bytes moment t)

    by : (o : Option (List Entry)) → option_map_or (λ entries. with_requested name (print_of bytes) entries marked) o marked
        ≡ record (arrived_in name bytes moment t) { uploads = (option_map_or (λ entries. with_requested name (print_of bytes) entries marked) o marked).uploads; wants = (option_map_or (λ entries. with_requested name (print_of bytes) entries marked) o marked).wants }
    by None = refl
    by (Some entries) = only_requested name (print_of bytes) entries marked

-- What a delivery leaves of the bodies and the arrivals.
pub record Delivers (t new : Tables) (name bytes : List ℕ) (moment : ℕ) : Type 0 where
  pub bodies : AreBodies new
  pub arrivals : AreArrivals new
  pub arrived : arrivals_in new ≡ with_arrival (arrivals_in t) (record { name = name; body = bytes; moment = moment })
  pub bytes_kept : (id : ℕ) → has_body t id ≡ true → bytes_of new id ≡ bytes_of t id
  pub print_kept : (id : ℕ) → has_body t id ≡ true → print_at new id ≡ print_at t id
  pub body_kept : (id : ℕ) → has_body t id ≡ true → has_body new id ≡ true
  pub known : (seconds : Option ℕ) (at : ℕ)
      → list_any (λ x. is_arrival name (number_with (print_of bytes) (with_bytes (print_of bytes) bytes t)) x.1 && counts_row seconds at x.1) t.arrivals
      ≡ has_arrival (current seconds at (arrivals_in t)) (record { name = name; body = bytes; moment = moment })

-- the arrivals stay if their bodies do
arrivals_stay : (t now : Tables) (bytes : List ℕ) (id : ℕ) → AreArrivals t → Stores t now bytes id → arrivals_in now ≡ arrivals_in t
unfolding arrivals_in
arrivals_stay t now bytes id h st =
    ap (λ l. map (arrival_in now) (rows_of l)) st.arrivals_kept
    ∙ same_map_over (arrival_in now) (arrival_in t) (rows_of t.arrivals)
    (λ a c. ap (λ (l : List ℕ). record { name = a.name; body = l; moment = a.moment }) (st.bytes_kept a.body (All-contains (λ a. IsTrue (has_body t a.body)) (rows_of t.arrivals) a h.bodies c)))

still_arrivals : (t now : Tables) (bytes : List ℕ) (id : ℕ) → AreArrivals t → Stores t now bytes id → AreArrivals now
still_arrivals t now bytes id h st = record {
  bodies = subst (λ l. All (λ a. IsTrue (has_body now a.body)) (rows_of l)) (sym st.arrivals_kept)
      (All-weaker (λ a. IsTrue (has_body t a.body)) (λ a. IsTrue (has_body now a.body)) (λ a. st.body_kept a.body) (rows_of t.arrivals) h.bodies);
  apart = subst (λ l. AllPairs (λ a b. is_arrival a.name a.body b ≡ false) (rows_of l)) (sym st.arrivals_kept) h.apart;
  deliverable = subst (All (λ a. IsDeliverable a.name a.body × (a.moment ≤ latest))) (sym (arrivals_stay t now bytes id h st)) h.deliverable;
}

-- bodies that are stored and used
bodies_used : (s : Tables) (arrivals : Numbered ArrivalRow) (uploads : Numbered UploadRow) (wants : Numbered Want) → AreStored s
    → All (λ x. IsTrue (is_used (record s { arrivals = arrivals; uploads = uploads; wants = wants }) x.0)) s.bodies → AreBodies (record s { arrivals = arrivals; uploads = uploads; wants = wants })
unfolding bytes_of has_body
bodies_used s arrivals uploads wants h used = record { whole = h.whole; pieces = h.pieces; apart = h.apart; used = used; owned = h.owned }

arrivals_beside : (a : Tables) (uploads : Numbered UploadRow) (wants : Numbered Want) → AreArrivals a → AreArrivals (record a { uploads = uploads; wants = wants })
unfolding bytes_of has_body arrivals_in
arrivals_beside a uploads wants h = record { bodies = h.bodies; apart = h.apart; deliverable = h.deliverable }

same_arrivals : (a : Tables) (uploads : Numbered UploadRow) (wants : Numbered Want) → arrivals_in (record a { uploads = uploads; wants = wants }) ≡ arrivals_in a
unfolding bytes_of arrivals_in
same_arrivals a uploads wants = refl

-- the bodies of the tables are those of others
record HaveBodies (s new : Tables) : Type 0 where
  bytes_are : (id : ℕ) → bytes_of new id ≡ bytes_of s id
  prints_are : (id : ℕ) → print_at new id ≡ print_at s id
  bodies_are : (id : ℕ) → has_body new id ≡ has_body s id

have_bodies : (s : Tables) (arrivals : Numbered ArrivalRow) (uploads : Numbered UploadRow) (wants : Numbered Want)
    → HaveBodies s (record s { arrivals = arrivals; uploads = uploads; wants = wants })
unfolding bytes_of has_body
have_bodies s arrivals uploads wants = record { bytes_are = λ id. refl; prints_are = λ id. refl; bodies_are = λ id. refl }

pub delivered_bodies : (t : Tables) → AreNumbered t → AreBodies t → AreArrivals t → (name bytes : List ℕ) (moment : ℕ) → moment ≤ latest → IsDeliverable name bytes
    → ((found : ℕ) → body_with (print_of bytes) t.bodies ≡ Some found → bytes_of t found ≡ bytes) → (listed : Option (List Entry))
    → Delivers t (with_delivered name (print_of bytes) bytes moment listed t) name bytes moment
delivered_bodies t up b a name bytes moment in_range deliverable same listed =
    let p = print_of bytes in
    let s = with_bytes p bytes t in
    let all = stores t up.bodies (are_stored t b) bytes same in
    let id = all.0 in
    let st = all.1 in
    let number : number_with p s ≡ id = ap (λ (o : Option ℕ). unwrap_or o 0) st.found in
    let stay = arrivals_stay t s bytes id a st in
    let rising : Rises s.arrivals = subst Rises (sym st.arrivals_kept) up.arrivals in
    let still = still_arrivals t s bytes id a st in
    let has = has_bytes t s bytes id st in
    let core = arrived_in name bytes moment t in
    let there = subst (λ n. Arrives s name bytes moment id (with_arrived name n moment s)) (sym number) (arrives s rising still name bytes moment id has deliverable in_range) in
    let new = with_delivered name p bytes moment listed t in
    let is = beside_uploads name bytes moment listed t in
    let from_stored : new ≡ record s { arrivals = core.arrivals; uploads = new.uploads; wants = new.wants } = is ∙ ap (λ (x : Tables). record x { uploads = new.uploads; wants = new.wants }) there.only in
    let have = subst (HaveBodies s) (sym from_stored) (have_bodies s core.arrivals new.uploads new.wants) in
    record {
      bodies = subst AreBodies (sym from_stored) (bodies_used s core.arrivals new.uploads new.wants st.stored (all_if _ s.bodies (λ x c. used s core id new.uploads new.wants st there x (st.others x c))));
      arrivals = subst AreArrivals (sym is) (arrivals_beside core new.uploads new.wants there.arrivals);
      arrived = ap arrivals_in is ∙ same_arrivals core new.uploads new.wants ∙ there.arrived ∙ ap (λ l. with_arrival l (record { name = name; body = bytes; moment = moment })) stay;
      bytes_kept = λ n old. have.bytes_are n ∙ st.bytes_kept n old;
      print_kept = λ n old. have.prints_are n ∙ st.print_kept n old;
      body_kept = λ n old. have.bodies_are n ∙ st.body_kept n old;
      known = λ seconds at.
          ap (λ n. list_any (λ (x : ℕ × ArrivalRow). is_arrival name n x.1 && counts_row seconds at x.1) t.arrivals) number
          ∙ ap (list_any (λ (x : ℕ × ArrivalRow). is_arrival name id x.1 && counts_row seconds at x.1)) (sym st.arrivals_kept)
          ∙ is_known_at s rising still name bytes moment id has seconds at
          ∙ ap (λ l. has_arrival (current seconds at l) (record { name = name; body = bytes; moment = moment })) stay;
    }
  where
    used : (s core : Tables) (id : ℕ) (uploads : Numbered UploadRow) (wants : Numbered Want) → Stores t s bytes id → Arrives s name bytes moment id core
        → (x : ℕ × BodyRow) → Contains t.bodies x ⊎ (x.0 ≡ id) → IsTrue (is_used (record s { arrivals = core.arrivals; uploads = uploads; wants = wants }) x.0)
    used s core id uploads wants st there x (inl c) =
        used_on t (record s { arrivals = core.arrivals; uploads = uploads; wants = wants }) x.0
        (λ e. there.uses_kept x.0 (subst (λ l. IsTrue (list_any (λ a. nat_eq a.body x.0) (rows_of l))) (sym st.arrivals_kept) e))
        (λ e. subst (λ l. IsTrue (list_any (λ f. nat_eq f.body x.0) (rows_of l))) (sym st.files_kept) e)
        (All-contains (λ x. IsTrue (is_used t x.0)) t.bodies x b.used c)
    used s core id uploads wants st there x (inr e) =
        let after : Tables = record s { arrivals = core.arrivals; uploads = uploads; wants = wants } in
        subst (λ n. IsTrue (is_used after n)) (sym e) (arrived_used after id there.uses_it)

-- ---- what is there

-- a listed file is there exactly if the book has it
pub here_is_there : (t : Tables) → AreBodies t → AreArrivals t → (e : Entry) → is_here t e ≡ is_there (arrivals_in t) e
unfolding is_here is_there is_body_of arrivals_in
here_is_there t b h e =
    by (body_with e.print t.bodies) refl
    ∙ sym (list_any-map (arrival_in t) (is_body_of e) (rows_of t.arrivals))
  where
    its : (a : ArrivalRow) → Contains (rows_of t.arrivals) a → has_body t a.body ≡ true
    its a c = All-contains (λ a. IsTrue (has_body t a.body)) (rows_of t.arrivals) a h.bodies c

    by : (o : Option ℕ) → body_with e.print t.bodies ≡ o
        → option_map_or (λ body. list_any (is_arrival e.name body) (rows_of t.arrivals)) o false ≡ list_any (λ a. bytes_eq a.name e.name && same_print (print_of (bytes_of t a.body)) e.print) (rows_of t.arrivals)
    by None is = sym (any_none _ (rows_of t.arrivals) (λ a c. ap (λ q. bytes_eq a.name e.name && q) (of_no_print t (are_stored t b) e.print is a.body (its a c)) ∙ and_right (bytes_eq a.name e.name) false refl))
    by (Some found) is = any_same (is_arrival e.name found) _ (rows_of t.arrivals) (λ a c. ap (λ q. bytes_eq a.name e.name && q) (by_number t (are_stored t b) e.print found is a.body (its a c)))
