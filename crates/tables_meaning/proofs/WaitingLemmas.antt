-- What the uploads that are not judged wait for, as the book has it and as the tables do.
use Rattle.std.proofs.Common.{◌≡◌, ℕ, Bool, not, if◌then◌else◌, List, [], ◌∷◌, map, filter, length, refl, ap, sym, ◌∙◌}
use Rattle.std.specs.Ordering.{is_gt}
use Rattle.std.proofs.lemmas.List.{length-map}
use Rattle.std.proofs.lemmas.List.Sorted.{IsPermutation-sym, length_permutation}
use Rattle.sqlite_keyed.specs.Lists.{insert_sorted as put_by, sort_by as sorted_by}
use Rattle.sqlite_keyed.proofs.ListLemmas.{IsPermutation-filter, filter-map, map-map, map_same}
use Rattle.sqlite_keyed.proofs.SortLemmas.{IsPermutation-sort_by, sort_by-map}
use Rattle.sums.specs.Prints.{print as print_of}
use Rattle.sums.specs.declared.entries.Entry.{Entry}
use Rattle.sums.specs.declared.print.Print.{Print}
use Rattle.suites.specs.Keys.{text_order}
use Rattle.book.specs.Book.{Book, Candidate, by_name, is_body_of, is_there, lacks_of, missing, put_by_name, unjudged, waiting_of}
use Rattle.book.specs.declared.arrival.Arrival.{Arrival}
use Rattle.book.specs.declared.change.Lack.{Lack}
use Rattle.book.specs.declared.change.Waiting.{Waiting}
use Rattle.tables.specs.Rows.{Rises, Tables, rows_of}
use Rattle.tables.specs.Wants.{is_wanted_by}
use Rattle.tables.specs.declared.rows.Want.{Want}
use Rattle.tables_meaning.specs.Kept.{AreUploads, Request, arrivals_in, request_in, request_of, want_order, wanted, wants_in, entry_order}
use Rattle.tables_meaning.specs.Reads.{lack_from, lacks_in, missing_in, waiting_in, wanting_rows}
use Rattle.tables_meaning.proofs.NumberOrders.{want_order_total}
use Rattle.tables_meaning.proofs.OrderLemmas.{unjudged_requests}

-- how many have not arrived
pub missing_wants : List (List ℕ × Print × Bool) → ℕ
missing_wants wants = length (filter (λ w. not w.2) wants)

-- the number does not depend on their order
as_many : (wants : List (List ℕ × Print × Bool)) → missing_wants (sorted_by want_order wants) ≡ missing_wants wants
unfolding missing_wants
as_many wants =
    length_permutation (filter (λ w. not w.2) wants) (filter (λ w. not w.2) (sorted_by want_order wants))
    (IsPermutation-filter (λ w. not w.2) _ _ (IsPermutation-sym _ _ (IsPermutation-sort_by want_order want_order_total wants)))

pub missing_in-wants : (t : Tables) (id : ℕ) → missing_in t id ≡ missing_wants (wants_in t id)
unfolding missing_in missing_wants wants_in
missing_in-wants t id =
    let wants = filter (is_wanted_by id) (rows_of t.wants) in
    let shown : Want → List ℕ × Print × Bool = λ w. (w.name, w.print, w.here) in
    sym (length-map (filter (λ w. not w.here) wants) shown) ∙ ap length (sym (filter-map (λ w. not w.2) shown wants)) ∙ sym (as_many (map shown wants))

pub missing-wants : (arrivals : List Arrival) (c : Candidate) → length (missing arrivals c) ≡ missing_wants (request_of arrivals c).1
unfolding missing missing_wants
missing-wants arrivals c =
    sym (length-map (filter (λ e. not (is_there arrivals e)) c.changes.entries) (wanted arrivals)) ∙ ap length (sym (filter-map (λ w. not w.2) (wanted arrivals) c.changes.entries))
    ∙ sym (as_many (map (wanted arrivals) c.changes.entries))

-- ---- what is lacking

put_by_name-put_by : (e : Entry) (es : List Entry) → put_by_name e es ≡ put_by entry_order e es
put_by_name-put_by e [] = refl
put_by_name-put_by e (f ∷ fs) = ap (λ r. if is_gt (text_order e.name f.name) then f ∷ r else e ∷ f ∷ fs) (put_by_name-put_by e fs)

by_name-sorted_by : (es : List Entry) → by_name es ≡ sorted_by entry_order es
by_name-sorted_by [] = refl
by_name-sorted_by (e ∷ es) = put_by_name-put_by e (by_name es) ∙ ap (put_by entry_order e) (by_name-sorted_by es)

-- what is lacking of what a request asks for
abbrev lacking : List Arrival → List (List ℕ × Print × Bool) → List Lack
lacking all wants = map (lack_from all) (filter (λ w. not w.2) wants)

lacking-lacks : (all now : List Arrival) (entries : List Entry) → lacking all (sorted_by want_order (map (wanted now) entries)) ≡ lacks_of all now entries
unfolding lacks_of is_there is_body_of
lacking-lacks all now entries =
    ap (lacking all) (sort_by-map want_order (wanted now) entries ∙ ap (map (wanted now)) (sym (by_name-sorted_by entries)))
    ∙ ap (map (lack_from all)) (filter-map (λ w. not w.2) (wanted now) (by_name entries))
    ∙ map-map (lack_from all) (wanted now) (filter (λ e. not (is_there now e)) (by_name entries))

-- what a request waits for
abbrev waiting_for : List Arrival → Request → Waiting
waiting_for all r = record { name = r.0.0; print = r.0.1; lacks = lacking all r.1 }

-- the uploads that wait are the same in both, in the same order, and lack the same
pub waits_are : (all : List Arrival) (t : Tables) (b : Book) → b.arrivals ≡ arrivals_in t → Rises t.uploads → AreUploads t b.judged
    → map (waiting_in all t) (wanting_rows t) ≡ map (waiting_of all b.arrivals) (unjudged b)
unfolding lacks_in
waits_are all t b same up uploads =
    sym (map-map (waiting_for all) (request_in t) (wanting_rows t))
    ∙ ap (map (waiting_for all)) (unjudged_requests t b same up uploads)
    ∙ map-map (waiting_for all) (request_of b.arrivals) (unjudged b)
    ∙ map_same (λ c. waiting_for all (request_of b.arrivals c)) (waiting_of all b.arrivals)
    (λ c. ap (λ lacks. record { name = c.name; print = print_of c.body; lacks = lacks }) (lacking-lacks all b.arrivals c.changes.entries)) (unjudged b)
