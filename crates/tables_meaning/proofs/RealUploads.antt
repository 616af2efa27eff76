-- The rows of bodies, arrivals, uploads and what these want can be held.
use Rattle.std.proofs.Common.{◌≡◌, ◌≢◌, ℕ, zero, suc, ◌+◌, Bool, true, false, not, ◌&&◌, if◌then◌else◌, List, [], ◌∷◌, map, filter, find, Option, Some, None, Result, Ok, Err, IfSome, All, IsTrue, is_some, ◌≤◌, refl, sym, ap, ap₂, subst, ◌∙◌, arith, nat_eq, slice_get, get_or}
use Rattle.std.specs.Prelude.{Contains}
use Rattle.std.specs.List.{AllByRecursion, cons_option, list_any}
use Rattle.std.specs.Option.{option_map, option_map_or}
use Rattle.std.specs.Result.{result_ok}
use Rattle.std.proofs.lemmas.Bool.{and_parts, both_ways, eq-eqb, eqb-true}
use Rattle.std.proofs.lemmas.List.Elements.{All-from_recursion, Contains-get_or, recursion_from_All}
use Rattle.std.proofs.lemmas.List.Sorted.{Contains-permutation, IsPermutation-sym}
use Rattle.sqlite_keyed.specs.Lists.{sort_by as sorted_by}
use Rattle.sqlite_keyed.proofs.SortLemmas.{IsPermutation-sort_by}
use Rattle.std.proofs.lemmas.Option.{same_Some, slice_get_within, slice_get-get_or}
use Rattle.records.proofs.RecordRead.{changes_of_read}
use Rattle.records.specs.Records.{changes_in}
use Rattle.records.specs.Values.{ChangesValue}
use Rattle.records.specs.declared.fault.RecordFault.{RecordFault}
use Rattle.sums.proofs.Booleans.{denied}
use Rattle.sums.proofs.Members.{all_at, all_from, any_some, contains_map, from_map}
use Rattle.sums.specs.FileNames.{is_file_name, is_changes_name}
use Rattle.sums.specs.Lines.{greatest_size}
use Rattle.sums.specs.Lists.{IsFile}
use Rattle.sums.specs.Prints.{print as print_of}
use Rattle.sums.specs.declared.entries.Entry.{Entry}
use Rattle.sums.specs.declared.entries.ListKind.TheVariants.{Changes}
use Rattle.suites.proofs.ListMembers.{from_filter, to_filter}
use Rattle.book.specs.Book.{Candidate, candidate_of, candidates, is_arrival_of, is_body_of, is_judged, is_there, latest}
use Rattle.book.specs.Keeping.{IsDeliverable}
use Rattle.book.specs.declared.arrival.Arrival.{Arrival}
use Rattle.book.specs.declared.change.Judgement.{Judgement}
use Rattle.tables.specs.Real.{IsRealArrival, IsRealBody, IsRealPrint, IsRealUpload, IsRealWant}
use Rattle.tables.specs.Rows.{Tables, rows_of}
use Rattle.tables.specs.Uploads.{is_judged as has_place}
use Rattle.tables.specs.Wants.{is_wanted_by}
use Rattle.tables.specs.declared.rows.UploadRow.{UploadRow}
use Rattle.tables.specs.declared.rows.Want.{Want}
use Rattle.tables_meaning.specs.Kept.{AreArrivals, AreBodies, AreSigned, AreUploads, IsSigned, arrival_in, arrivals_in, bytes_of, is_placed, judged_row, request_in, request_of, want_order, wanted, wants_in}
use Rattle.tables_meaning.proofs.NumberOrders.{want_order_total}
use Rattle.tables_meaning.proofs.AsciiLemmas.{ascii-IsUtf8, file_name_ascii}
use Rattle.tables_meaning.proofs.BodyLemmas.{apart_same, found, none_found}
use Rattle.tables_meaning.proofs.Searches.{all_in_rows}
use Rattle.tables_meaning.proofs.SignedLemmas.{real_print}

-- ---- bodies and arrivals

pub real_bodies : (t : Tables) → AreBodies t → All IsRealBody (rows_of t.bodies)
real_bodies t bodies =
    all_in_rows IsRealBody t.bodies (recursion_from_All (λ x. IsRealBody x.1) t.bodies
    (all_from (λ x. IsRealBody x.1) t.bodies (λ x at.
    subst (λ o. IfSome o IsRealPrint) (sym (all_at (λ y. y.1.print ≡ Some (print_of (bytes_of t y.0))) t.bodies x bodies.whole at)) (real_print (bytes_of t x.0)))))

pub real_arrivals : (t : Tables) → AreArrivals t → All IsRealArrival (rows_of t.arrivals)
unfolding arrivals_in
real_arrivals t arrivals = all_from IsRealArrival (rows_of t.arrivals) (λ a at.
    let may = all_at (λ b. IsDeliverable b.name b.body × (b.moment ≤ latest)) (arrivals_in t) (arrival_in t a) arrivals.deliverable (contains_map (arrival_in t) a (rows_of t.arrivals) at) in
    ascii-IsUtf8 a.name (file_name_ascii a.name may.0.file_name))

-- ---- the .changes that arrived

-- the name of a .changes is a file name, and its record is that of its body
record IsRead (c : Candidate) : Type 0 where
  name : is_file_name c.name ≡ true
  changes : changes_in c.body ≡ Ok c.changes

read_candidate : (a : Arrival) → IsDeliverable a.name a.body → (b : Bool) → (cs : List Candidate) → AllByRecursion IsRead cs
    → AllByRecursion IsRead (cons_option (if b then option_map (λ c. record { name = a.name; body = a.body; changes = c }) (result_ok (changes_in a.body)) else None) cs)
read_candidate a may false cs rest = rest
read_candidate a may true cs rest = go (changes_in a.body) refl
  where
    go : (r : Result ChangesValue RecordFault) → changes_in a.body ≡ r → AllByRecursion IsRead (cons_option (option_map (λ c. record { name = a.name; body = a.body; changes = c }) (result_ok r)) cs)
    go (Ok c) is = (record { name = may.file_name; changes = is }, rest)
    go (Err e) is = rest

read_candidates : (arrivals : List Arrival) → AllByRecursion (λ a. IsDeliverable a.name a.body × (a.moment ≤ latest)) arrivals → AllByRecursion IsRead (candidates arrivals)
unfolding candidate_of
read_candidates [] all = tt
read_candidates (a ∷ arrivals) all = read_candidate a all.0.0 (is_changes_name a.name) (candidates arrivals) (read_candidates arrivals all.1)

real_file : (e : Entry) → IsFile greatest_size Changes e → IsRealPrint e.print
real_file e file = record { md5 = file.md5.length; sha1 = file.sha1.length; sha256 = file.sha256.length }

-- ---- uploads without a verdict

module _ (t : Tables) (judged : List Judgement) (arrivals : AreArrivals t) (uploads : AreUploads t judged) where
  -- the .changes of such a row
  record IsOf (x : ℕ × UploadRow) : Type 0 where
    of : Candidate
    read : IsRead of
    request : request_of (arrivals_in t) of ≡ request_in t x

  waiting_is : (x : ℕ × UploadRow) → Contains t.uploads x → has_place x.1 ≡ false → IsOf x
  waiting_is x at unplaced =
      let waits = contains_map (request_in t) x (filter (λ y. not (has_place y.1)) t.uploads) (to_filter (λ y. not (has_place y.1)) x t.uploads at (ap not unplaced)) in
      let from = from_map (request_of (arrivals_in t)) (request_in t x) (filter (λ c. not (is_judged judged c)) (candidates (arrivals_in t))) (Contains-permutation _ _ (request_in t x) uploads.waiting waits) in
      let all = All-from_recursion IsRead (candidates (arrivals_in t)) (read_candidates (arrivals_in t) (recursion_from_All (λ a. IsDeliverable a.name a.body × (a.moment ≤ latest)) (arrivals_in t) arrivals.deliverable)) in
      record {
        of = from.0;
        read = all_at IsRead (candidates (arrivals_in t)) from.0 all (from_filter (λ c. not (is_judged judged c)) from.0 (candidates (arrivals_in t)) from.1).0;
        request = from.2;
      }

  waiting_real : (x : ℕ × UploadRow) → IsOf x → IsRealUpload x.1
  waiting_real x is =
      let name : is.of.name ≡ x.1.name = ap (λ r. r.0.0) is.request in
      let print : print_of is.of.body ≡ x.1.print = ap (λ r. r.0.1) is.request in
      record {
        name = ascii-IsUtf8 x.1.name (file_name_ascii x.1.name (subst (λ n. is_file_name n ≡ true) name is.read.name));
        print = subst IsRealPrint print (real_print is.of.body);
      }

  -- what it wants is listed in the .changes
  record IsListed (c : Candidate) (w : Want) : Type 0 where
    entry : Entry
    within : Contains c.changes.entries entry
    same : wanted (arrivals_in t) entry ≡ (w.name, w.print, w.here)

  listed_in : (x : ℕ × UploadRow) → (is : IsOf x) → (w : Want) → Contains (rows_of t.wants) w → nat_eq w.upload x.0 ≡ true → IsListed is.of w
  unfolding wants_in
  listed_in x is w at its =
      let entries = is.of.changes.entries in
      let rows = map (λ (v : Want). (v.name, v.print, v.here)) (filter (is_wanted_by x.0) (rows_of t.wants)) in
      let asked = map (wanted (arrivals_in t)) entries in
      let listed : Contains (wants_in t x.0) (w.name, w.print, w.here) =
      Contains-permutation rows (sorted_by want_order rows) (w.name, w.print, w.here) (IsPermutation-sym _ _ (IsPermutation-sort_by want_order want_order_total rows))
      (contains_map (λ v. (v.name, v.print, v.here)) w (filter (is_wanted_by x.0) (rows_of t.wants)) (to_filter (is_wanted_by x.0) w (rows_of t.wants) at its)) in
      let from = from_map (wanted (arrivals_in t)) (w.name, w.print, w.here) entries
      (Contains-permutation (sorted_by want_order asked) asked (w.name, w.print, w.here) (IsPermutation-sort_by want_order want_order_total asked)
      (subst (λ ws. Contains ws (w.name, w.print, w.here)) (sym (ap (λ r. r.1) is.request)) listed)) in
      record { entry = from.0; within = from.1; same = from.2 }

  want_real : (c : Candidate) → IsRead c → (w : Want) → IsListed c w → IsRealWant w
  want_real c read w listed =
      let file = all_at (IsFile greatest_size Changes) c.changes.entries listed.entry (changes_of_read _ c.body c.changes read.changes).made.entries.listed.each listed.within in
      let name : listed.entry.name ≡ w.name = ap (λ v. v.0) listed.same in
      let print : listed.entry.print ≡ w.print = ap (λ v. v.1) listed.same in
      record {
        name = ascii-IsUtf8 w.name (file_name_ascii w.name (subst (λ n. is_file_name n ≡ true) name file.name));
        print = subst IsRealPrint print (real_file listed.entry file);
      }

  want_here : (c : Candidate) → (w : Want) → IsListed c w → w.here ≡ list_any (is_arrival_of w.name w.print) (arrivals_in t)
  unfolding is_there is_body_of
  want_here c w listed =
      sym (ap (λ v. v.2) listed.same)
      ∙ ap₂ (λ name print. list_any (is_arrival_of name print) (arrivals_in t)) (ap (λ v. v.0) listed.same) (ap (λ v. v.1) listed.same)

  -- the .changes that a row is listed in
  record IsAsked (w : Want) : Type 0 where
    of : Candidate
    read : IsRead of
    listed : IsListed of w

  asked_for : (w : Want) → Contains (rows_of t.wants) w → IsAsked w
  asked_for w at =
      let owner = any_some (λ x. nat_eq x.0 w.upload && not (has_place x.1)) t.uploads (all_at (λ v. IsTrue (list_any (λ x. nat_eq x.0 v.upload && not (has_place x.1)) t.uploads)) (rows_of t.wants) w uploads.owned at) in
      let x = owner.0 in
      let parts = and_parts (nat_eq x.0 w.upload) (not (has_place x.1)) owner.2 in
      let is = waiting_is x owner.1 (denied (has_place x.1) parts.1) in
      record { of = is.of; read = is.read; listed = listed_in x is w at (eq-eqb w.upload x.0 (sym (eqb-true x.0 w.upload parts.0))) }

  pub real_wants : All IsRealWant (rows_of t.wants)
  real_wants = all_from IsRealWant (rows_of t.wants) (λ w at. let asked = asked_for w at in want_real asked.of asked.read w asked.listed)

  -- what is wanted is here exactly if it has arrived
  pub wants_here : All (λ w. w.here ≡ list_any (is_arrival_of w.name w.print) (arrivals_in t)) (rows_of t.wants)
  wants_here = all_from (λ w. w.here ≡ list_any (is_arrival_of w.name w.print) (arrivals_in t)) (rows_of t.wants) (λ w at. let asked = asked_for w at in want_here asked.of w asked.listed)

  -- ---- uploads with a verdict

  module _ (signed : AreSigned judged) where
    judged_real : (n : ℕ) (u : UploadRow) (o : Option Judgement) → slice_get judged n ≡ o → Some u ≡ option_map (judged_row (n + 1)) o → IsRealUpload u
    judged_real n u None is e = cc
    judged_real n u (Some j) is e =
        let lt = slice_get_within judged n j is in
        let same : get_or judged n j ≡ j = same_Some _ j (sym (slice_get-get_or judged n j lt) ∙ is) in
        let sign : IsSigned j.name j.print = all_at (λ k. IsSigned k.name k.print) judged j signed (subst (Contains judged) same (Contains-get_or judged n j lt)) in
        let row : u ≡ judged_row (n + 1) j = same_Some u (judged_row (n + 1) j) e in
        subst IsRealUpload (sym row) (record { name = ascii-IsUtf8 j.name (file_name_ascii j.name sign.file_name); print = sign.digests })

    placed_real : (u : UploadRow) → Contains (rows_of t.uploads) u → (n : ℕ) → u.place ≡ Some (n + 1) → IsRealUpload u
    placed_real u at n is = go (find (is_placed (n + 1)) (rows_of t.uploads)) refl
      where
        placed : is_placed (n + 1) u ≡ true
        placed = ap (λ o. option_map_or (λ p. nat_eq p (n + 1)) o false) is ∙ eq-eqb (n + 1) (n + 1) refl

        place_is : (o : Option ℕ) → option_map_or (λ p. nat_eq p (n + 1)) o false ≡ true → o ≡ Some (n + 1)
        place_is None h = cc
        place_is (Some p) h = ap Some (eqb-true p (n + 1) h)

        has : (v : UploadRow) → v.place ≡ Some (n + 1) → has_place v ≡ true
        has v e = ap is_some e

        go : (o : Option UploadRow) → find (is_placed (n + 1)) (rows_of t.uploads) ≡ o → IsRealUpload u
        go None none = absurd (both_ways (is_placed (n + 1) u) (none_found (is_placed (n + 1)) (rows_of t.uploads) none u at) placed)
        go (Some v) some =
            let it = found (is_placed (n + 1)) (rows_of t.uploads) v some in
            let place : v.place ≡ Some (n + 1) = place_is v.place it.passes in
            let same : v ≡ u = apart_same (λ a b. IsTrue (has_place a) → a.place ≢ b.place) (rows_of t.uploads) uploads.placed_apart v u it.within at (λ apart. apart (has v place) (place ∙ sym is)) (λ apart. apart (has u is) (is ∙ sym place)) in
            subst IsRealUpload same (judged_real n v (slice_get judged n) refl (sym some ∙ uploads.places n))

    real_upload : (x : ℕ × UploadRow) → Contains t.uploads x → (o : Option ℕ) → x.1.place ≡ o → IsRealUpload x.1
    real_upload x at None is = waiting_real x (waiting_is x at (ap is_some is))
    real_upload x at (Some zero) is = absurd (all_at (λ u. u.place ≢ Some 0) (rows_of t.uploads) x.1 uploads.from_one (contains_map (λ y. y.1) x t.uploads at) is)
    real_upload x at (Some (suc n)) is = placed_real x.1 (contains_map (λ y. y.1) x t.uploads at) n (let next : suc n ≡ n + 1 = omega arith in is ∙ ap Some next)

    pub real_uploads : All IsRealUpload (rows_of t.uploads)
    real_uploads = all_in_rows IsRealUpload t.uploads (recursion_from_All (λ x. IsRealUpload x.1) t.uploads (all_from (λ x. IsRealUpload x.1) t.uploads (λ x at. real_upload x at x.1.place refl)))
