-- What the reads of arrivals find is what the book has.
use Rattle.std.proofs.Common.{◌≡◌, ℕ, Bool, true, false, ◌&&◌, cond, List, [], ◌∷◌, map, find, Option, Some, None, IsTrue, bytes_eq, nat_eq, refl, sym, ap, ◌∙◌}
use Rattle.std.specs.List.{AllByRecursion, cons_option, filter_map}
use Rattle.std.specs.Option.{option_and_then, option_map}
use Rattle.std.proofs.lemmas.Bool.{and_right}
use Rattle.sqlite.specs.Effect.{Database}
use Rattle.sqlite_keyed.proofs.ListLemmas.{all_weaker, map-map}
use Rattle.sums.specs.Prints.{print as print_of, same_print}
use Rattle.sums.specs.declared.print.Print.{Print}
use Rattle.rules.specs.Values.{ConfigValue}
use Rattle.suites.specs.Shelves.{ShelvesValue}
use Rattle.book.specs.Book.{arrived_file, is_arrival_of}
use Rattle.book.specs.declared.arrival.Arrival.{Arrival}
use Rattle.book.specs.declared.arrived.ArrivedFile.{ArrivedFile}
use Rattle.book.specs.declared.change.Judgement.{Judgement}
use Rattle.tables.specs.Arrivals.{is_arrival}
use Rattle.tables.specs.Bodies.{body_with}
use Rattle.tables.specs.Rows.{Numbered, Rises, Tables, rows_of, tables_in}
use Rattle.tables.specs.declared.rows.ArrivalRow.{ArrivalRow}
use Rattle.tables_meaning.specs.Archives.{KeepsArchive, book_in_database}
use Rattle.tables_meaning.specs.Finished.{finished}
use Rattle.tables_meaning.specs.Kept.{AreArrivals, AreStored, arrival_in, arrivals_in, book_in, bytes_of, has_body, print_at}
use Rattle.tables_meaning.proofs.AmendedLemmas.{print_is}
use Rattle.tables_meaning.proofs.BodyLemmas.{are_stored, by_number, of_no_print}
use Rattle.tables_meaning.proofs.DeliveredLemmas.{numbered}
use Rattle.tables_meaning.proofs.FinishedLemmas.{body_finished, bytes_finished, print_finished}
use Rattle.tables_meaning.proofs.Searches.{all_of_rows}
use Rattle.keep_tables.specs.Arrived.{bytes_under, file_in, file_with, files_in, found_bytes}

-- ---- lists

-- if the function gives something for each element, those are all
all_given : {X Y : Type 0} (f : X → Option Y) (g : X → Y) (xs : List X) → AllByRecursion (λ x. f x ≡ Some (g x)) xs → filter_map f xs ≡ map g xs
all_given f g [] h = refl
all_given f g (x ∷ xs) h = ap (λ o. cons_option o (filter_map f xs)) h.0 ∙ ap (λ ys. g x ∷ ys) (all_given f g xs h.1)

-- searches by tests that agree find the same
same_found : {X A B : Type 0} (p : X → Bool) (q : A → Bool) (f : X → A) (g : X → B) (h : A → B) (xs : List X) → AllByRecursion (λ x. (p x ≡ q (f x)) × (g x ≡ h (f x))) xs
    → option_map g (find p xs) ≡ option_map h (find q (map f xs))
same_found p q f g h [] all = refl
same_found p q f g h (x ∷ xs) all =
    ap (λ b. option_map g (cond b (Some x) (find p xs))) all.0.0
    ∙ elim (q (f x)) as (λ b. option_map g (cond b (Some x) (find p xs)) ≡ option_map h (cond b (Some (f x)) (find q (map f xs)))) [
      | true ↦ ap Some all.0.1
      | false ↦ same_found p q f g h xs all.1
    ]

-- if no element passes, nothing is found
none_found : {X A : Type 0} (q : A → Bool) (f : X → A) (xs : List X) → AllByRecursion (λ x. q (f x) ≡ false) xs → find q (map f xs) ≡ None
none_found q f [] all = refl
none_found q f (x ∷ xs) all = ap (λ b. cond b (Some (f x)) (find q (map f xs))) all.0 ∙ none_found q f xs all.1

-- ---- rows

module _ (t : Tables) (up : Rises t.bodies) (stored : AreStored (finished t)) (arrived : AreArrivals (finished t)) where
  abbrev whole : Tables
  whole = finished t

  -- the arrival of a row with its number
  abbrev its : ℕ × ArrivalRow → Arrival
  its x = arrival_in whole x.1

  bodies_there : AllByRecursion (λ x. IsTrue (has_body whole x.1.body)) t.arrivals
  unfolding finished
  bodies_there = all_of_rows (λ a. IsTrue (has_body (finished t) a.body)) t.arrivals arrived.bodies

  arrivals_are : map its t.arrivals ≡ arrivals_in whole
  unfolding arrivals_in finished
  arrivals_are = sym (map-map (arrival_in whole) (λ (x : ℕ × ArrivalRow). x.1) t.arrivals)

  one_file : (x : ℕ × ArrivalRow) → IsTrue (has_body whole x.1.body) → file_in t x.1 ≡ Some (arrived_file (its x))
  one_file x there = ap (option_map (file_with x.1)) (sym (print_finished t up x.1.body there) ∙ print_is whole stored x.1.body there)

  -- ALL THAT HAS ARRIVED
  pub files_are : files_in t ≡ map arrived_file (arrivals_in whole)
  unfolding files_in
  files_are =
      all_given (λ (x : ℕ × ArrivalRow). file_in t x.1) (λ x. arrived_file (its x)) t.arrivals
      (all_weaker (λ x. IsTrue (has_body whole x.1.body)) (λ x. file_in t x.1 ≡ Some (arrived_file (its x))) one_file t.arrivals bodies_there)
      ∙ sym (map-map arrived_file its t.arrivals)
      ∙ ap (map arrived_file) arrivals_are

  module _ (name : List ℕ) (print : Print) where
    no_such : body_with print whole.bodies ≡ None → (x : ℕ × ArrivalRow) → IsTrue (has_body whole x.1.body) → is_arrival_of name print (its x) ≡ false
    no_such none x there = ap (λ b. bytes_eq x.1.name name && b) (of_no_print whole stored print none x.1.body there) ∙ and_right (bytes_eq x.1.name name) false refl

    same_one : (id : ℕ) → body_with print whole.bodies ≡ Some id → (x : ℕ × ArrivalRow) → IsTrue (has_body whole x.1.body)
        → (is_arrival name id x.1 ≡ is_arrival_of name print (its x)) × (bytes_of t x.1.body ≡ (its x).body)
    same_one id is x there = (ap (λ b. bytes_eq x.1.name name && b) (by_number whole stored print id is x.1.body there), sym (bytes_finished t up x.1.body there))

    by_body : (o : Option ℕ) → body_with print whole.bodies ≡ o → option_and_then (bytes_under name t) o ≡ option_map (λ a. a.body) (find (is_arrival_of name print) (map its t.arrivals))
    by_body None is =
        sym (ap (option_map (λ (a : Arrival). a.body)) (none_found (is_arrival_of name print) its t.arrivals
        (all_weaker (λ x. IsTrue (has_body whole x.1.body)) (λ x. is_arrival_of name print (its x) ≡ false) (no_such is) t.arrivals bodies_there)))
    by_body (Some id) is =
        same_found (λ (x : ℕ × ArrivalRow). is_arrival name id x.1) (is_arrival_of name print) its (λ x. bytes_of t x.1.body) (λ (a : Arrival). a.body) t.arrivals
        (all_weaker (λ x. IsTrue (has_body whole x.1.body)) (λ x. (is_arrival name id x.1 ≡ is_arrival_of name print (its x)) × (bytes_of t x.1.body ≡ (its x).body)) (same_one id is) t.arrivals
        bodies_there)

    -- ONE BODY OF ALL THAT HAS ARRIVED
    pub bytes_are : found_bytes name print t ≡ option_map (λ a. a.body) (find (is_arrival_of name print) (arrivals_in whole))
    unfolding found_bytes
    bytes_are =
        ap (option_and_then (bytes_under name t)) (sym (body_finished print t))
        ∙ by_body (body_with print whole.bodies) refl
        ∙ ap (λ (all : List Arrival). option_map (λ (a : Arrival). a.body) (find (is_arrival_of name print) all)) arrivals_are

-- ---- the book

module _ (db : Database) (config : ConfigValue) (judged : List Judgement) (shown : ShelvesValue) (dates : List ℕ) (keeps : KeepsArchive db config judged shown dates) where
  pub files_of_book : files_in (tables_in db) ≡ map arrived_file (book_in_database db config judged shown dates).arrivals
  unfolding book_in
  files_of_book = files_are (tables_in db) (numbered db (tables_in db) keeps.held).bodies (are_stored (finished (tables_in db)) keeps.kept.bodies) keeps.kept.arrivals

  pub bytes_of_book : (name : List ℕ) (print : Print) → found_bytes name print (tables_in db) ≡ option_map (λ a. a.body) (find (is_arrival_of name print) (book_in_database db config judged shown dates).arrivals)
  unfolding book_in
  bytes_of_book name print = bytes_are (tables_in db) (numbered db (tables_in db) keeps.held).bodies (are_stored (finished (tables_in db)) keeps.kept.bodies) keeps.kept.arrivals name print
