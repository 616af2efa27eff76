-- The uploads that wait for a verdict, by the rows and by what arrived.
use Rattle.std.proofs.Common.{◌≡◌, ℕ, Bool, true, false, not, ◌||◌, cond, if◌then◌else◌, nat_eq, Option, Some, None, option_map, IsTrue, List, [], ◌∷◌, map, filter, find, Contains, refl, sym, ap, ap₂, subst₂, ◌∙◌, true≢false, IsPermutation}
use Rattle.std.specs.List.{AllByRecursion, list_any, filter_map, cons_option}
use Rattle.std.specs.Option.{option_and_then}
use Rattle.std.specs.Result.{result_ok}
use Rattle.std.proofs.lemmas.Bool.Decides.{Decides-eqb}
use Rattle.std.proofs.lemmas.List.Elements.{All-contains, All-from_recursion, recursion_from_All}
use Rattle.sqlite_keyed.specs.Lists.{sort_by as sorted_by}
use Rattle.sqlite_keyed.proofs.ListLemmas.{map_same}
use Rattle.records.specs.Records.{changes_in}
use Rattle.records.specs.Values.{ChangesValue}
use Rattle.sums.specs.Prints.{print as print_of}
use Rattle.sums.specs.declared.entries.Entry.{Entry}
use Rattle.sums.specs.declared.print.Print.{Print}
use Rattle.book.specs.Book.{Candidate, candidate_of, candidates, is_body_of, is_judged, is_there}
use Rattle.sums.specs.FileNames.{is_changes_name}
use Rattle.sums.proofs.Words.{list_any-map}
use Rattle.book.specs.declared.change.Judgement.{Judgement}
use Rattle.tables.specs.Rows.{Numbered, Tables, rows_of}
use Rattle.tables.specs.Uploads.{is_judged as has_place}
use Rattle.tables.specs.declared.rows.ArrivalRow.{ArrivalRow}
use Rattle.tables.specs.declared.rows.BodyRow.{BodyRow}
use Rattle.tables_read.specs.All.{AreConstrained}
use Rattle.tables_meaning.specs.Kept.{arrival_in, arrivals_in, bytes_of, request_in, request_of, want_order, wanted, wants_in}
use Rattle.tables_audit.specs.Parts.{BodiesFit}
use Rattle.tables_audit.specs.Uploads.{AreAsked, AreBesides, Printed, Waiting, awaited_view, changes_awaited, found_awaited, has_judgement, is_listed_as, is_there_among, print_among, printed, request_among, request_row, wanted_among, with_print, with_print_in}
use Rattle.tables_audit.specs.declared.uploads.arrived.Arrived.{Arrived}
use Rattle.tables_audit.specs.declared.uploads.awaited.Awaited.{Awaited}

-- ---- the prints of what arrived

print_there : (P : ℕ → Print) (bodies : Numbered BodyRow) (id : ℕ) → AllByRecursion (λ x. x.1.print ≡ Some (P x.0)) bodies → list_any (λ x. nat_eq x.0 id) bodies ≡ true
    → print_among bodies id ≡ Some (P id)
unfolding print_among
print_there P [] id all h = absurd (true≢false (sym h))
print_there P (x ∷ bodies) id all h = go (nat_eq x.0 id) refl h (print_there P bodies id all.1)
  where
    go : (b : Bool) → nat_eq x.0 id ≡ b → b || list_any (λ (y : ℕ × BodyRow). nat_eq y.0 id) bodies ≡ true
        → (list_any (λ (y : ℕ × BodyRow). nat_eq y.0 id) bodies ≡ true → option_and_then (λ (y : ℕ × BodyRow). y.1.print) (find (λ (y : ℕ × BodyRow). nat_eq y.0 id) bodies) ≡ Some (P id))
        → option_and_then (λ (y : ℕ × BodyRow). y.1.print) (cond b (Some x) (find (λ (y : ℕ × BodyRow). nat_eq y.0 id) bodies)) ≡ Some (P id)
    go true t e more = all.0 ∙ ap (λ (n : ℕ). Some (P n)) ((Decides-eqb x.0 id).0 t)
    go false t e more = more e

-- the print of the bytes of a body
abbrev pub print_in : Tables → ℕ → Print
print_in t id = print_of (bytes_of t id)

-- what arrived, with the prints of the bytes
abbrev pub arrivals_printed : Tables → List Printed
arrivals_printed t = map (λ a. (a, print_in t a.body)) (rows_of t.arrivals)

-- each arrival has the print of its bytes
pub each_printed : (t : Tables) → AreConstrained t → BodiesFit t → AllByRecursion (λ a. print_among t.bodies a.body ≡ Some (print_in t a.body)) (rows_of t.arrivals)
each_printed t keys fit =
    go (rows_of t.arrivals) (recursion_from_All (λ a. IsTrue (list_any (λ x. nat_eq x.0 a.body) t.bodies)) (rows_of t.arrivals) keys.arrivals_owned)
  where
    whole : AllByRecursion (λ x. x.1.print ≡ Some (print_in t x.0)) t.bodies
    whole = recursion_from_All (λ x. x.1.print ≡ Some (print_in t x.0)) t.bodies fit.whole

    go : (rows : List ArrivalRow) → AllByRecursion (λ a. IsTrue (list_any (λ x. nat_eq x.0 a.body) t.bodies)) rows → AllByRecursion (λ a. print_among t.bodies a.body ≡ Some (print_in t a.body)) rows
    go [] all = tt
    go (a ∷ rows) all = (print_there (print_in t) t.bodies a.body whole all.0, go rows all.1)

prints_same : (P : ℕ → Print) (bodies : Numbered BodyRow) (arrived : List Arrived) (rows : List ArrivalRow) → AllByRecursion (λ a. print_among bodies a.body ≡ Some (P a.body)) rows
    → map with_print arrived ≡ map (with_print_in bodies) rows → map printed arrived ≡ map (λ a. (a, P a.body)) rows
prints_same P bodies [] [] all e = refl
prints_same P bodies [] (a ∷ rows) all e = cc
prints_same P bodies (x ∷ arrived) [] all e = cc
prints_same P bodies (x ∷ arrived) (a ∷ rows) all e =
    let head : with_print x ≡ with_print_in bodies a = cc in
    let rest : map with_print arrived ≡ map (with_print_in bodies) rows = cc in
    let one : x.arrival.now ≡ a = ap (λ (r : ArrivalRow × Option Print). r.0) head in
    let some : Some x.print ≡ Some (P a.body) = ap (λ (r : ArrivalRow × Option Print). r.1) head ∙ all.0 in
    let two : x.print ≡ P a.body = cc in
    ap₂ ◌∷◌ (ap₂ (λ (b : ArrivalRow) (p : Print). (b, p)) one two) (prints_same P bodies arrived rows all.1 rest)

pub printed_are : (t : Tables) (arrived : List Arrived) → AreConstrained t → BodiesFit t → map with_print arrived ≡ map (with_print_in t.bodies) (rows_of t.arrivals) → map printed arrived ≡ arrivals_printed t
printed_are t arrived keys fit e = prints_same (print_in t) t.bodies arrived (rows_of t.arrivals) (each_printed t keys fit) e

pub none_unprinted : (t : Tables) → AreConstrained t → BodiesFit t → Contains (map (λ a. print_among t.bodies a.body) (rows_of t.arrivals)) None → ⊥
none_unprinted t keys fit has =
    All-contains (λ (o : Option Print). o ≡ None → ⊥) (map (λ a. print_among t.bodies a.body) (rows_of t.arrivals)) None
    (All-from_recursion (λ (o : Option Print). o ≡ None → ⊥) (map (λ a. print_among t.bodies a.body) (rows_of t.arrivals)) (go (rows_of t.arrivals) (each_printed t keys fit)))
    has refl
  where
    go : (rows : List ArrivalRow) → AllByRecursion (λ a. print_among t.bodies a.body ≡ Some (print_in t a.body)) rows → AllByRecursion (λ (o : Option Print). o ≡ None → ⊥) (map (λ a. print_among t.bodies a.body) rows)
    go [] all = tt
    go (a ∷ rows) all = (λ e. let k : Some (print_in t a.body) ≡ None = sym all.0 ∙ e in cc, go rows all.1)

-- ---- what is there

there_same : (t : Tables) (e : Entry) → is_there_among (arrivals_printed t) e ≡ is_there (arrivals_in t) e
unfolding is_there is_body_of arrivals_in
there_same t e =
    list_any-map (λ (a : ArrivalRow). (a, print_in t a.body)) (is_listed_as e) (rows_of t.arrivals)
    ∙ sym (list_any-map (arrival_in t) (is_body_of e) (rows_of t.arrivals))

-- ---- what waits

module _ (t : Tables) (judged : List Judgement) where
  candidate_at : ArrivalRow → ChangesValue → Candidate
  candidate_at a c = record { name = a.name; body = bytes_of t a.body; changes = c }

  waits : Candidate → Bool
  waits c = not (is_judged judged c)

  verdict_same : (a : ArrivalRow) (c : ChangesValue) → is_judged judged (candidate_at a c) ≡ has_judgement judged (a, print_in t a.body)
  unfolding is_judged candidate_at
  verdict_same a c = refl

  request_same : (a : ArrivalRow) (c : ChangesValue) → request_among (arrivals_printed t) ((a, print_in t a.body), c) ≡ request_of (arrivals_in t) (candidate_at a c)
  unfolding candidate_at
  request_same a c =
      ap (λ (ws : List (List ℕ × Print × Bool)). ((a.name, print_in t a.body), ws))
      (ap (sorted_by want_order) (map_same (wanted_among (arrivals_printed t)) (wanted (arrivals_in t)) (λ e. ap (λ (b : Bool). (e.name, e.print, b)) (there_same t e)) c.entries))

  step : (a : ArrivalRow) (left : List Waiting) (right : List Candidate) (named : Bool) (record_there : Option ChangesValue) (has : Bool) → has_judgement judged (a, print_in t a.body) ≡ has
      → map (request_among (arrivals_printed t)) left ≡ map (request_of (arrivals_in t)) (filter waits right)
      → map (request_among (arrivals_printed t)) (cons_option (option_map (λ c. ((a, print_in t a.body), c)) (if named then (if has then None else record_there) else None)) left)
      ≡ map (request_of (arrivals_in t)) (filter waits (cons_option (if named then option_map (candidate_at a) record_there else None) right))
  unfolding waits
  step a left right false o has e more = more
  step a left right true None true e more = more
  step a left right true None false e more = more
  step a left right true (Some c) true e more =
      more ∙ sym (ap (λ (b : Bool). map (request_of (arrivals_in t)) (cond (not b) (candidate_at a c ∷ filter waits right) (filter waits right))) (verdict_same a c ∙ e))
  step a left right true (Some c) false e more =
      ap₂ ◌∷◌ (request_same a c) more
      ∙ sym (ap (λ (b : Bool). map (request_of (arrivals_in t)) (cond (not b) (candidate_at a c ∷ filter waits right) (filter waits right))) (verdict_same a c ∙ e))

  among_rows : (rows : List ArrivalRow) → map (request_among (arrivals_printed t)) (filter_map (found_awaited t.pieces judged) (map (λ a. (a, print_in t a.body)) rows))
      ≡ map (request_of (arrivals_in t)) (filter waits (filter_map candidate_of (map (arrival_in t) rows)))
  unfolding changes_awaited candidate_of candidate_at bytes_of
  among_rows [] = refl
  among_rows (a ∷ rows) =
      step a (filter_map (found_awaited t.pieces judged) (map (λ a. (a, print_in t a.body)) rows)) (filter_map candidate_of (map (arrival_in t) rows))
      (is_changes_name a.name) (result_ok (changes_in (bytes_of t a.body))) (has_judgement judged (a, print_in t a.body)) refl (among_rows rows)

  requests_same : map (request_among (arrivals_printed t)) (filter_map (found_awaited t.pieces judged) (arrivals_printed t))
      ≡ map (request_of (arrivals_in t)) (filter (λ c. not (is_judged judged c)) (candidates (arrivals_in t)))
  unfolding waits arrivals_in
  requests_same = among_rows (rows_of t.arrivals)

  rows_same : map (request_row t.wants) (filter (λ x. not (has_place x.1)) t.uploads) ≡ map (request_in t) (filter (λ x. not (has_place x.1)) t.uploads)
  unfolding wants_in
  rows_same = refl

  -- the rows ask for what the arrivals do
  pub asked_same : (arrived : List Arrived) (awaited : List Awaited) → map printed arrived ≡ arrivals_printed t
      → map awaited_view awaited ≡ filter_map (found_awaited t.pieces judged) (map printed arrived)
      → map (request_among (map printed arrived)) (map awaited_view awaited) ≡ map (request_of (arrivals_in t)) (filter (λ c. not (is_judged judged c)) (candidates (arrivals_in t)))
  asked_same arrived awaited prints found =
      ap (map (request_among (map printed arrived))) found
      ∙ ap (λ (ps : List Printed). map (request_among ps) (filter_map (found_awaited t.pieces judged) ps)) prints
      ∙ requests_same

  pub waiting_from : (arrived : List Arrived) (awaited : List Awaited) → map printed arrived ≡ arrivals_printed t
      → map awaited_view awaited ≡ filter_map (found_awaited t.pieces judged) (map printed arrived)
      → AreAsked t.uploads t.wants arrived awaited
      → IsPermutation (map (request_in t) (filter (λ x. not (has_place x.1)) t.uploads)) (map (request_of (arrivals_in t)) (filter (λ c. not (is_judged judged c)) (candidates (arrivals_in t))))
  waiting_from arrived awaited prints found e = subst₂ IsPermutation rows_same (asked_same arrived awaited prints found) e

  pub waiting_to : (arrived : List Arrived) (awaited : List Awaited) → map printed arrived ≡ arrivals_printed t
      → map awaited_view awaited ≡ filter_map (found_awaited t.pieces judged) (map printed arrived)
      → AreBesides t judged
      → AreAsked t.uploads t.wants arrived awaited
  waiting_to arrived awaited prints found b = subst₂ IsPermutation (sym rows_same) (sym (asked_same arrived awaited prints found)) b.waiting
