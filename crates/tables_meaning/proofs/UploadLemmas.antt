-- Uploads after a delivery.
use Rattle.std.proofs.Common.{◌≡◌, ℕ, Bool, true, false, not, ◌||◌, cond, if◌then◌else◌, nat_lt, List, [], ◌∷◌, ◌++◌, map, filter, find, Option, Some, None, option_map, is_some, IsTrue, refl, sym, ap, ap₂, ◌∙◌, append-nil, append_assoc}
use Rattle.std.specs.List.{list_any, cons_option}
use Rattle.std.specs.Option.{option_map_or}
use Rattle.std.specs.Result.{result_ok}
use Rattle.std.proofs.lemmas.Bool.{both_ways, eqb-true, or_from, or_left, or_right}
use Rattle.std.proofs.lemmas.List.{map-append}
use Rattle.std.proofs.lemmas.List.Elements.{recursion_from_All}
use Rattle.sqlite_keyed.specs.Lists.{sort_by as sorted_by}
use Rattle.sqlite_keyed.proofs.ListLemmas.{all_map, all_weaker, map_same}
use Rattle.records.specs.Records.{changes_in}
use Rattle.records.specs.Values.{ChangesValue}
use Rattle.sums.specs.Prints.{print as print_of, same_print}
use Rattle.sums.specs.declared.entries.Entry.{Entry}
use Rattle.sums.specs.declared.print.Print.{Print}
use Rattle.book.specs.Book.{Candidate, candidate_of, has_arrival, is_judged, is_there, with_arrival}
use Rattle.sums.specs.FileNames.{is_changes_name}
use Rattle.sums.proofs.Words.{list_any-map}
use Rattle.book.specs.Keeping.{sign_on}
use Rattle.book.specs.declared.arrival.Arrival.{Arrival}
use Rattle.book.specs.declared.change.Judgement.{Judgement}
use Rattle.book.proofs.Prints.{same_print-Decides}
use Rattle.tables.specs.Arrivals.{is_arrival, with_moment}
use Rattle.tables.specs.Bodies.{body_with}
use Rattle.tables.specs.Rows.{Numbered, Tables, added, changed, next_in, rows_of, with_arrival as put_arrival, with_body, with_piece, with_upload, with_want}
use Rattle.tables.specs.Uploads.{is_upload}
use Rattle.tables.specs.Wants.{is_want, with_here}
use Rattle.tables.specs.declared.rows.ArrivalRow.{ArrivalRow}
use Rattle.tables.specs.declared.rows.Piece.{Piece}
use Rattle.tables.specs.declared.rows.UploadRow.{UploadRow}
use Rattle.tables.specs.declared.rows.Want.{Want}
use Rattle.tables_meaning.specs.Kept.{AreArrivals, AreBodies, AreNumbered, AreUploads, arrivals_in, arrival_in, bytes_of, has_body, pieces_for, request_of, sign_in, want_order, wanted, Request}
use Rattle.tables_meaning.specs.Making.{is_here, number_with, with_arrived, with_bytes, with_delivered, with_pieces, with_requested, with_wants}
use Rattle.tables_meaning.proofs.BodyLemmas.{are_stored, by_number, of_no_print}
use Rattle.tables_meaning.proofs.WantLemmas.{Sign, is_sign, AreRows, any_row, marked_want, marked_request, with_marked, new_want, new_upload, with_one_more}
use Rattle.tables_meaning.proofs.RequestLemmas.{judged_by_sign, requests, rows_from_uploads, uploads_from_rows, IsAlone, sign_made, sign_asked, requests_with}

-- ---- the rows that a delivery leaves

pieces_uploads : (pieces : List Piece) (t : Tables) → (with_pieces pieces t).uploads ≡ t.uploads
pieces_uploads [] t = refl
pieces_uploads (p ∷ pieces) t = pieces_uploads pieces (with_piece p t)

pieces_wants : (pieces : List Piece) (t : Tables) → (with_pieces pieces t).wants ≡ t.wants
pieces_wants [] t = refl
pieces_wants (p ∷ pieces) t = pieces_wants pieces (with_piece p t)

bytes_uploads : (print : Print) (bytes : List ℕ) (t : Tables) → (with_bytes print bytes t).uploads ≡ t.uploads
unfolding with_bytes
bytes_uploads print bytes t =
    let put = with_pieces (pieces_for (next_in t.bodies) bytes) (with_body (record { print = Some print }) t) in
    elim (is_some (body_with print t.bodies)) as (λ b. (if b then t else put).uploads ≡ t.uploads)
    [ true ↦ refl | false ↦ pieces_uploads (pieces_for (next_in t.bodies) bytes) (with_body (record { print = Some print }) t) ]

bytes_wants : (print : Print) (bytes : List ℕ) (t : Tables) → (with_bytes print bytes t).wants ≡ t.wants
unfolding with_bytes
bytes_wants print bytes t =
    let put = with_pieces (pieces_for (next_in t.bodies) bytes) (with_body (record { print = Some print }) t) in
    elim (is_some (body_with print t.bodies)) as (λ b. (if b then t else put).wants ≡ t.wants)
    [ true ↦ refl | false ↦ pieces_wants (pieces_for (next_in t.bodies) bytes) (with_body (record { print = Some print }) t) ]

-- an arrival touches no upload and no want
arrived_uploads : (name : List ℕ) (body moment : ℕ) (t : Tables) → (with_arrived name body moment t).uploads ≡ t.uploads
unfolding with_arrived
arrived_uploads name body moment t = go (find (λ x. is_arrival name body x.1) t.arrivals)
  where
    go : (o : Option (ℕ × ArrivalRow)) → (option_map_or (λ x. if nat_lt x.1.moment moment then with_moment x.0 moment t else t) o (put_arrival (record { name = name; body = body; moment = moment }) t)).uploads ≡ t.uploads
    go None = refl
    go (Some x) = elim (nat_lt x.1.moment moment) as (λ b. (if b then with_moment x.0 moment t else t).uploads ≡ t.uploads) [ true ↦ refl | false ↦ refl ]

arrived_wants : (name : List ℕ) (body moment : ℕ) (t : Tables) → (with_arrived name body moment t).wants ≡ t.wants
unfolding with_arrived
arrived_wants name body moment t = go (find (λ x. is_arrival name body x.1) t.arrivals)
  where
    go : (o : Option (ℕ × ArrivalRow)) → (option_map_or (λ x. if nat_lt x.1.moment moment then with_moment x.0 moment t else t) o (put_arrival (record { name = name; body = body; moment = moment }) t)).wants ≡ t.wants
    go None = refl
    go (Some x) = elim (nat_lt x.1.moment moment) as (λ b. (if b then with_moment x.0 moment t else t).wants ≡ t.wants) [ true ↦ refl | false ↦ refl ]

marked_rows : (name : List ℕ) (print : Print) (wants : Numbered Want)
    → rows_of (changed (λ x. is_want name print x.1) (λ w. record w { here = true }) wants) ≡ map (marked_want name print) (rows_of wants)
marked_rows name print [] = refl
marked_rows name print (x ∷ wants) =
    ap₂ ◌∷◌ (elim (is_want name print x.1) as (λ b. (if b then (x.0, record x.1 { here = true }) else x).1 ≡ cond b (record x.1 { here = true }) x.1) [ true ↦ refl | false ↦ refl ])
    (marked_rows name print wants)

-- the tables before the upload is looked at
abbrev pub marked_tables : List ℕ → List ℕ → ℕ → Tables → Tables
marked_tables name bytes moment t =
    with_here name (print_of bytes) (with_arrived name (number_with (print_of bytes) (with_bytes (print_of bytes) bytes t)) moment (with_bytes (print_of bytes) bytes t))

marked_uploads : (name bytes : List ℕ) (moment : ℕ) (t : Tables) → (marked_tables name bytes moment t).uploads ≡ t.uploads
marked_uploads name bytes moment t =
    let stored = with_bytes (print_of bytes) bytes t in
    arrived_uploads name (number_with (print_of bytes) stored) moment stored ∙ bytes_uploads (print_of bytes) bytes t

marked_wants : (name bytes : List ℕ) (moment : ℕ) (t : Tables) → rows_of (marked_tables name bytes moment t).wants ≡ map (marked_want name (print_of bytes)) (rows_of t.wants)
marked_wants name bytes moment t =
    let stored = with_bytes (print_of bytes) bytes t in
    marked_rows name (print_of bytes) (with_arrived name (number_with (print_of bytes) stored) moment stored).wants
    ∙ ap (λ ws. map (marked_want name (print_of bytes)) (rows_of ws)) (arrived_wants name (number_with (print_of bytes) stored) moment stored ∙ bytes_wants (print_of bytes) bytes t)

-- an entry, and whether it is there
abbrev pub entry_here : Tables → Entry → List ℕ × Print × Bool
entry_here t e = (e.name, e.print, is_here t e)

wants_uploads : (id : ℕ) (entries : List Entry) (t : Tables) → (with_wants id entries t).uploads ≡ t.uploads
wants_uploads id [] t = refl
wants_uploads id (e ∷ entries) t = wants_uploads id entries (with_want (record { upload = id; name = e.name; print = e.print; here = is_here t e }) t)

wants_here : (id : ℕ) (entries : List Entry) (t : Tables) (e : Entry) → is_here (with_wants id entries t) e ≡ is_here t e
unfolding is_here
wants_here id [] t e = refl
wants_here id (f ∷ entries) t e = wants_here id entries (with_want (record { upload = id; name = f.name; print = f.print; here = is_here t f }) t) e

wants_rows : (id : ℕ) (entries : List Entry) (t : Tables) → rows_of (with_wants id entries t).wants ≡ rows_of t.wants ++ map (new_want id) (map (entry_here t) entries)
unfolding is_here
wants_rows id [] t = sym (append-nil (rows_of t.wants))
wants_rows id (e ∷ entries) t =
    let want : Want = record { upload = id; name = e.name; print = e.print; here = is_here t e } in
    wants_rows id entries (with_want want t)
    ∙ ap (λ ws. ws ++ map (new_want id) (map (entry_here t) entries)) (map-append (λ x. x.1) t.wants ((next_in t.wants, want) ∷ []))
    ∙ append_assoc (rows_of t.wants) (want ∷ []) (map (new_want id) (map (entry_here t) entries))

-- ---- bodies of one print

-- if a stored body of the print of these bytes is these bytes, each body that has the print is these bytes
same_bytes : (t : Tables) (bytes : List ℕ) → AreBodies t → ((found : ℕ) → body_with (print_of bytes) t.bodies ≡ Some found → bytes_of t found ≡ bytes)
    → (id : ℕ) → has_body t id ≡ true → print_of (bytes_of t id) ≡ print_of bytes → bytes_of t id ≡ bytes
same_bytes t bytes bodies stored id is same = go (body_with (print_of bytes) t.bodies) refl
  where
    alike : same_print (print_of (bytes_of t id)) (print_of bytes) ≡ true
    alike = (same_print-Decides (print_of (bytes_of t id)) (print_of bytes)).1 same

    go : (o : Option ℕ) → body_with (print_of bytes) t.bodies ≡ o → bytes_of t id ≡ bytes
    go None e = absurd (both_ways _ (of_no_print t (are_stored t bodies) (print_of bytes) e id is) alike)
    go (Some found) e = ap (bytes_of t) (eqb-true id found (by_number t (are_stored t bodies) (print_of bytes) found e id is ∙ alike)) ∙ stored found e

-- each body that arrived with the print is these bytes
pub alone_if_stored : (t : Tables) (name bytes : List ℕ) (moment : ℕ) → AreBodies t → AreArrivals t → ((found : ℕ) → body_with (print_of bytes) t.bodies ≡ Some found → bytes_of t found ≡ bytes)
    → IsAlone (arrivals_in t) (record { name = name; body = bytes; moment = moment })
unfolding arrivals_in
alone_if_stored t name bytes moment bodies arrived stored =
    all_map (λ b. print_of b.body ≡ print_of bytes → b.body ≡ bytes) (arrival_in t) (rows_of t.arrivals)
    (all_weaker (λ a. IsTrue (has_body t a.body)) (λ a. print_of (bytes_of t a.body) ≡ print_of bytes → bytes_of t a.body ≡ bytes) (λ a. same_bytes t bytes bodies stored a.body)
    (rows_of t.arrivals) (recursion_from_All (λ a. IsTrue (has_body t a.body)) (rows_of t.arrivals) arrived.bodies))

-- ---- the whole

-- what a .changes lists is what its candidate lists
listed_by : (a : Arrival) → (if is_changes_name a.name then option_map (λ c. c.entries) (result_ok (changes_in a.body)) else None) ≡ option_map (λ c. c.changes.entries) (candidate_of a)
unfolding candidate_of
listed_by a = go (is_changes_name a.name) (result_ok (changes_in a.body))
  where
    go : (t : Bool) (o : Option ChangesValue) → (if t then option_map (λ c. c.entries) o else None)
        ≡ option_map (λ (c : Candidate). c.changes.entries) (if t then option_map (λ v. record { name = a.name; body = a.body; changes = v }) o else None)
    go true None = refl
    go true (Some v) = refl
    go false o = refl

requested_there : (name : List ℕ) (print : Print) (entries : List Entry) (t : Tables) → list_any (is_upload name print) (rows_of t.uploads) ≡ true → with_requested name print entries t ≡ t
unfolding with_requested
requested_there name print entries t h =
    ap (λ b. if b then t else with_wants (next_in t.uploads) entries (with_upload (record { name = name; print = print; place = None; verdict = None }) t)) h

requested_new : (name : List ℕ) (print : Print) (entries : List Entry) (t : Tables) → list_any (is_upload name print) (rows_of t.uploads) ≡ false
    → with_requested name print entries t ≡ with_wants (next_in t.uploads) entries (with_upload (new_upload (name, print)) t)
unfolding with_requested
requested_new name print entries t h =
    ap (λ b. if b then t else with_wants (next_in t.uploads) entries (with_upload (record { name = name; print = print; place = None; verdict = None }) t)) h

here_beside : (t : Tables) (u : UploadRow) (e : Entry) → is_here (with_upload u t) e ≡ is_here t e
unfolding is_here
here_beside t u e = refl

module _ (t : Tables) (judged : List Judgement) (name bytes : List ℕ) (moment : ℕ) (numbered : AreNumbered t) (are : AreUploads t judged) where
  abbrev arrival : Arrival
  arrival = record { name = name; body = bytes; moment = moment }

  abbrev print : Print
  print = print_of bytes

  abbrev marked : Tables
  marked = marked_tables name bytes moment t

  abbrev asked : List Request
  asked = map (marked_request (name, print)) (requests (arrivals_in t) judged)

  -- what is asked for besides
  abbrev more : List Candidate
  more = filter (λ c. not (is_judged judged c)) (cond (has_arrival (arrivals_in t) arrival) [] (cons_option (candidate_of arrival) []))

  rows_marked : AreRows t.uploads (map (marked_want name print) (rows_of t.wants)) judged asked
  rows_marked = with_marked t.uploads (rows_of t.wants) judged (requests (arrivals_in t) judged) name print (rows_from_uploads t judged are)

  module _ (new : Tables) (arrivals_are : arrivals_in new ≡ with_arrival (arrivals_in t) arrival) where
    asked_then : requests (arrivals_in new) judged ≡ asked ++ map (request_of (with_arrival (arrivals_in t) arrival)) more
    asked_then = ap (λ l. requests l judged) arrivals_are ∙ requests_with (arrivals_in t) arrival judged

    -- there is no new upload
    same_uploads : new ≡ marked → more ≡ [] → AreUploads new judged
    same_uploads is none = uploads_from_rows new judged (record {
      uploads = t.uploads;
      wants = map (marked_want name print) (rows_of t.wants);
      asked = asked;
      are = rows_marked;
      uploads_are = ap (λ x. x.uploads) is ∙ marked_uploads name bytes moment t;
      wants_are = ap (λ x. rows_of x.wants) is ∙ marked_wants name bytes moment t;
      asked_are = asked_then ∙ ap (λ cs. asked ++ map (request_of (with_arrival (arrivals_in t) arrival)) cs) none ∙ append-nil asked;
    })

    module _ (here : (e : Entry) → is_here new e ≡ is_there (arrivals_in new) e) (c : Candidate) (made : candidate_of arrival ≡ Some c)
        (is : new ≡ with_requested name print c.changes.entries marked) where
      row_test : list_any (is_upload name print) (rows_of marked.uploads) ≡ list_any (λ x. is_sign (name, print) (sign_in x.1)) t.uploads
      row_test =
          ap (λ us. list_any (is_upload name print) (rows_of us)) (marked_uploads name bytes moment t)
          ∙ list_any-map (λ x. x.1) (is_upload name print) t.uploads

      -- there is one more upload
      one_more : list_any (λ x. is_sign (name, print) (sign_in x.1)) t.uploads ≡ false → more ≡ c ∷ [] → AreUploads new judged
      one_more absent one =
          let s : Sign = (name, print) in
          let entries = c.changes.entries in
          let put = with_upload (new_upload s) marked in
          let made_new = is ∙ requested_new name print entries marked (row_test ∙ absent) in
          let here_marked : (e : Entry) → is_here marked e ≡ is_there (with_arrival (arrivals_in t) arrival) e = λ e.
          sym (ap (λ x. is_here x e) made_new ∙ wants_here (next_in marked.uploads) entries put e ∙ here_beside marked (new_upload s) e)
          ∙ here e ∙ ap (λ l. is_there l e) arrivals_are in
          let es = map (entry_here marked) entries in
          uploads_from_rows new judged (record {
            uploads = added t.uploads (new_upload s);
            wants = map (marked_want name print) (rows_of t.wants) ++ map (new_want (next_in t.uploads)) es;
            asked = asked ++ (s, sorted_by want_order es) ∷ [];
            are = with_one_more t.uploads (map (marked_want name print) (rows_of t.wants)) judged asked s es numbered.uploads rows_marked absent;
            uploads_are =
                ap (λ x. x.uploads) made_new ∙ wants_uploads (next_in marked.uploads) entries put
                ∙ ap (λ us. added us (new_upload s)) (marked_uploads name bytes moment t);
            wants_are =
                ap (λ x. rows_of x.wants) made_new ∙ wants_rows (next_in marked.uploads) entries put
                ∙ ap (λ l. rows_of marked.wants ++ map (new_want (next_in marked.uploads)) l) (map_same (entry_here put) (entry_here marked) (λ e. ap (λ h. (e.name, e.print, h)) (here_beside marked (new_upload s) e)) entries)
                ∙ ap (λ us. rows_of marked.wants ++ map (new_want (next_in us)) es) (marked_uploads name bytes moment t)
                ∙ ap (λ ws. ws ++ map (new_want (next_in t.uploads)) es) (marked_wants name bytes moment t);
            asked_are =
                asked_then
                ∙ ap (λ cs. asked ++ map (request_of (with_arrival (arrivals_in t) arrival)) cs) one
                ∙ ap₂ (λ r l. asked ++ (r, sorted_by want_order l) ∷ []) (sign_made arrival c made arrival c made)
                (map_same (wanted (with_arrival (arrivals_in t) arrival)) (entry_here marked) (λ e. ap (λ h. (e.name, e.print, h)) (sym (here_marked e))) entries);
          })

      more_is : (j h : Bool) → is_judged judged c ≡ j → has_arrival (arrivals_in t) arrival ≡ h → more ≡ cond j [] (cond h [] (c ∷ []))
      more_is j h e f =
          ap₂ (λ b o. filter (λ d. not (is_judged judged d)) (cond b [] (cons_option o []))) f made ∙ go j h e
        where
          go : (j h : Bool) → is_judged judged c ≡ j → filter (λ d. not (is_judged judged d)) (cond h [] (c ∷ [])) ≡ cond j [] (cond h [] (c ∷ []))
          go true true e = refl
          go true false e = rw e
          go false true e = refl
          go false false e = rw e

      some_listed : IsAlone (arrivals_in t) arrival → AreUploads new judged
      some_listed alone = go (is_judged judged c) (has_arrival (arrivals_in t) arrival) refl refl
        where
          row : list_any (λ x. is_sign (name, print) (sign_in x.1)) t.uploads ≡ list_any (λ r. is_sign (name, print) r.0) (requests (arrivals_in t) judged) || list_any (λ j. is_sign (name, print) (sign_on j)) judged
          row = any_row t.uploads (rows_of t.wants) judged (requests (arrivals_in t) judged) (rows_from_uploads t judged are) (name, print)

          there : list_any (λ x. is_sign (name, print) (sign_in x.1)) t.uploads ≡ true → more ≡ [] → AreUploads new judged
          there h none = same_uploads (is ∙ requested_there name print c.changes.entries marked (row_test ∙ h)) none

          go : (j h : Bool) → is_judged judged c ≡ j → has_arrival (arrivals_in t) arrival ≡ h → AreUploads new judged
          go true h e f =
              there (row ∙ or_right (list_any (λ r. is_sign (name, print) r.0) (requests (arrivals_in t) judged)) (list_any (λ j. is_sign (name, print) (sign_on j)) judged) (judged_by_sign arrival c made judged ∙ e))
              (more_is true h e f)
          go false true e f =
              there (row ∙ or_left (list_any (λ r. is_sign (name, print) r.0) (requests (arrivals_in t) judged)) (list_any (λ j. is_sign (name, print) (sign_on j)) judged)
              (sign_asked arrival c made (arrivals_in t) judged alone e ∙ f)) (more_is false true e f)
          go false false e f =
              one_more (row ∙ or_from (list_any (λ r. is_sign (name, print) r.0) (requests (arrivals_in t) judged)) (list_any (λ j. is_sign (name, print) (sign_on j)) judged)
              (sign_asked arrival c made (arrivals_in t) judged alone e ∙ f) (judged_by_sign arrival c made judged ∙ e)) (more_is false false e f)

-- The uploads after a delivery: what it brings is there for those that want it, and a new .changes that is not judged waits
-- with the entries that it lists.
pub delivered_uploads : (t : Tables) (judged : List Judgement) (name bytes : List ℕ) (moment : ℕ) (listed : Option (List Entry))
    → AreNumbered t → AreUploads t judged → AreBodies t → AreArrivals t
    → ((found : ℕ) → body_with (print_of bytes) t.bodies ≡ Some found → bytes_of t found ≡ bytes)
    → listed ≡ (if is_changes_name name then option_map (λ c. c.entries) (result_ok (changes_in bytes)) else None)
    → arrivals_in (with_delivered name (print_of bytes) bytes moment listed t) ≡ with_arrival (arrivals_in t) (record { name = name; body = bytes; moment = moment })
    → ((e : Entry) → is_here (with_delivered name (print_of bytes) bytes moment listed t) e ≡ is_there (arrivals_in (with_delivered name (print_of bytes) bytes moment listed t)) e)
    → AreUploads (with_delivered name (print_of bytes) bytes moment listed t) judged
unfolding with_delivered
delivered_uploads t judged name bytes moment listed numbered are bodies arrived stored is_listed arrivals_are here = go (candidate_of a) refl
  where
    a : Arrival
    a = record { name = name; body = bytes; moment = moment }

    marked_t : Tables
    marked_t = marked_tables name bytes moment t

    made_of_candidate : (o : Option Candidate) → candidate_of a ≡ o
        → option_map_or (λ entries. with_requested name (print_of bytes) entries marked_t) listed marked_t
        ≡ option_map_or (λ entries. with_requested name (print_of bytes) entries marked_t) (option_map (λ c. c.changes.entries) o) marked_t
    made_of_candidate o e = ap (λ l. option_map_or (λ entries. with_requested name (print_of bytes) entries marked_t) l marked_t) (is_listed ∙ listed_by a ∙ ap (option_map (λ c. c.changes.entries)) e)

    nothing : (b : Bool) → filter (λ c. not (is_judged judged c)) (cond b [] []) ≡ []
    nothing true = refl
    nothing false = refl

    go : (o : Option Candidate) → candidate_of a ≡ o → AreUploads (with_delivered name (print_of bytes) bytes moment listed t) judged
    go None e =
        same_uploads t judged name bytes moment numbered are (with_delivered name (print_of bytes) bytes moment listed t) arrivals_are (made_of_candidate None e)
        (ap (λ o. filter (λ c. not (is_judged judged c)) (cond (has_arrival (arrivals_in t) a) [] (cons_option o []))) e ∙ nothing (has_arrival (arrivals_in t) a))
    go (Some c) e =
        some_listed t judged name bytes moment numbered are (with_delivered name (print_of bytes) bytes moment listed t) arrivals_are here c e (made_of_candidate (Some c) e)
        (alone_if_stored t name bytes moment bodies arrived stored)
