-- What an upload lacks, as it is read row by row, is what the tables have of it.
use Rattle.std.proofs.Common.{◌≡◌, ℕ, Bool, true, false, not, cond, if◌then◌else◌, List, [], ◌∷◌, map, filter, Option, Some, None, refl, sym, ap, ap₂, ◌∙◌}
use Rattle.std.specs.Cmp.{IsTotalOrder}
use Rattle.std.specs.List.{AllByRecursion, cons_option, filter_map, list_any}
use Rattle.std.proofs.lemmas.Cmp.{on_total}
use Rattle.std.proofs.lemmas.List.Elements.{recursion_from_All}
use Rattle.sqlite_keyed.proofs.ListLemmas.{all-filter, all_weaker, map-map}
use Rattle.sums.specs.declared.print.Print.{Print}
use Rattle.suites.specs.Keys.{text_order}
use Rattle.suites.specs.KeyLemmas.{text_order_total}
use Rattle.book.specs.Book.{is_arrival_of}
use Rattle.book.specs.declared.arrival.Arrival.{Arrival}
use Rattle.book.specs.declared.change.Judgement.{Judgement}
use Rattle.book.specs.declared.change.Lack.{Lack}
use Rattle.tables.specs.Rows.{Tables, rows_of}
use Rattle.tables.specs.Wants.{is_wanted_by}
use Rattle.tables.specs.declared.rows.Want.{Want}
use Rattle.tables_meaning.specs.Finished.{finished}
use Rattle.tables_meaning.specs.Kept.{AreArrivals, AreUploads, arrivals_in, want_order, wants_in}
use Rattle.tables_meaning.specs.Reads.{lack_from, lacks_in, sorted_by}
use Rattle.tables_meaning.proofs.OrderLemmas.{map-sorted_by}
use Rattle.tables_meaning.proofs.RealUploads.{wants_here}
use Rattle.tables_meaning.proofs.SortedLemmas.{all_sorted}
use Rattle.keep_tables.specs.Moments.{lacks_at, name_order, wants_by_name}
use Rattle.tables_counting.specs.Moments.{is_had}

-- the order of entries is total
pub name_order_total : IsTotalOrder name_order
name_order_total = on_total (λ (w : Want). w.name) text_order_total

-- an entry of a finished body is here exactly if it has arrived
pub entries_here : (t : Tables) (judged : List Judgement) → AreArrivals (finished t) → AreUploads (finished t) judged
    → AllByRecursion (λ w. w.here ≡ list_any (is_arrival_of w.name w.print) (arrivals_in (finished t))) (rows_of t.wants)
unfolding finished
entries_here t judged arrived uploads =
    recursion_from_All (λ w. w.here ≡ list_any (is_arrival_of w.name w.print) (arrivals_in (finished t))) (rows_of t.wants) (wants_here (finished t) judged arrived uploads)

-- what is said of those that are not had is what is said of those that are not here, if these are what is made of those
said_of_those : {X Y Z : Type 0} (had : X → Bool) (say : X → Z) (made : X → Y) (here : Y → Bool) (said : Y → Z) (xs : List X)
    → AllByRecursion (λ x. (had x ≡ here (made x)) × (say x ≡ said (made x))) xs
    → filter_map (λ x. if had x then None else Some (say x)) xs ≡ map said (filter (λ y. not (here y)) (map made xs))
said_of_those had say made here said [] h = refl
said_of_those had say made here said (x ∷ xs) h =
    let more = said_of_those had say made here said xs h.1 in
    let left = filter (λ y. not (here y)) (map made xs) in
    ap (λ b. cons_option (if b then None else Some (say x)) (filter_map (λ y. if had y then None else Some (say y)) xs)) h.0.0
    ∙ elim (here (made x)) as (λ b. cons_option (if b then None else Some (say x)) (filter_map (λ y. if had y then None else Some (say y)) xs) ≡ map said (cond (not b) (made x ∷ left) left)) [
      | true ↦ more
      | false ↦ ap₂ ◌∷◌ h.0.1 more
    ]

module _ (t : Tables) (all : List Arrival) (here : AllByRecursion (λ w. w.here ≡ list_any (is_arrival_of w.name w.print) all) (rows_of t.wants)) (span : Option ℕ) (moment : ℕ)
    (left : Tables) (turn : Want → Want) (names : (w : Want) → (turn w).name ≡ w.name) (prints : (w : Want) → (turn w).print ≡ w.print) (had : (w : Want) → is_had span moment t w ≡ (turn w).here) where
  -- a row as the tables have it
  abbrev turned : Want → List ℕ × Print × Bool
  turned w = ((turn w).name, (turn w).print, (turn w).here)

  -- what is said of an entry
  abbrev say : Want → Lack
  say w = record { name = w.name; print = w.print; is_ended = w.here }

  said_alike : (w : Want) → w.here ≡ list_any (is_arrival_of w.name w.print) all → (is_had span moment t w ≡ (turn w).here) × (say w ≡ lack_from all (turned w))
  said_alike w is = (
    had w,
    ap (λ ended. record { name = w.name; print = w.print; is_ended = ended }) is
        ∙ ap₂ (λ name print. record { name = name; print = print; is_ended = list_any (is_arrival_of name print) all }) (sym (names w)) (sym (prints w)),
  )

  -- What an upload lacks is what it lacks by the rows that are left, if these are its rows with those here that are had.
  pub lacks_turned : (id : ℕ) → filter (is_wanted_by id) (rows_of left.wants) ≡ map turn (filter (is_wanted_by id) (rows_of t.wants)) → lacks_at span moment t id ≡ lacks_in all left id
  unfolding lacks_at wants_by_name lacks_in wants_in
  lacks_turned id rows =
      let mine = filter (is_wanted_by id) (rows_of t.wants) in
      let shown : Want → List ℕ × Print × Bool = λ w. (w.name, w.print, w.here) in
      let IsHere : Want → Type 0 = λ w. w.here ≡ list_any (is_arrival_of w.name w.print) all in
      let lacking : List (List ℕ × Print × Bool) → List Lack = λ wants. map (lack_from all) (filter (λ v. not v.2) wants) in
      said_of_those (is_had span moment t) say turned (λ v. v.2) (lack_from all) (sorted_by name_order mine)
      (all_weaker IsHere (λ w. (is_had span moment t w ≡ (turn w).here) × (say w ≡ lack_from all (turned w))) said_alike (sorted_by name_order mine)
      (all_sorted IsHere name_order mine (all-filter IsHere (is_wanted_by id) (rows_of t.wants) here)))
      ∙ ap lacking (map-sorted_by turned name_order want_order (λ v w. ap₂ text_order (sym (names v)) (sym (names w))) mine)
      ∙ ap (λ wants. lacking (sorted_by want_order wants)) (sym (map-map shown turn mine) ∙ ap (map shown) (sym rows))
