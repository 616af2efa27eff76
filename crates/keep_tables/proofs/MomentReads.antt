-- What the reads find at a moment is what the book has at it.
use Rattle.std.proofs.Common.{◌≡◌, ℕ, ◌<◌, Bool, true, false, not, ◌&&◌, cond, nat_eq, if◌then◌else◌, List, [], ◌∷◌, map, filter, length, Option, Some, None, option_map, unwrap_or, refl, sym, ap, ap₂, subst, ◌∙◌}
use Rattle.std.specs.List.{AllByRecursion, cons_option, filter_map, list_any}
use Rattle.std.specs.Option.{option_and_then, option_map_or}
use Rattle.std.specs.Result.{result_ok}
use Rattle.std.proofs.lemmas.Bool.{and_right, not-true}
use Rattle.std.proofs.lemmas.List.{length-map, map-id}
use Rattle.sqlite.specs.Effect.{Database}
use Rattle.sqlite_keyed.proofs.ListLemmas.{all-filter, all_of, all_weaker, ascending-filter, filter-map, filter_all, filter_same, map_same}
use Rattle.records.specs.Records.{changes_in}
use Rattle.records.specs.Values.{ChangesValue}
use Rattle.rules.specs.Values.{ConfigValue}
use Rattle.sums.specs.declared.entries.Entry.{Entry}
use Rattle.sums.specs.declared.print.Print.{Print}
use Rattle.suites.specs.Shelves.{ShelvesValue}
use Rattle.suites.specs.Upload.{UploadValue, has_text}
use Rattle.book.specs.Book.{Book, at_moment, current, due, span, unjudged as unjudged_of, upload_of, waiting_list, waiting_of}
use Rattle.book.specs.declared.change.Judgement.{Judgement}
use Rattle.book.specs.declared.change.Lack.{Lack}
use Rattle.book.specs.declared.change.Waiting.{Waiting}
use Rattle.book.proofs.Moments.{current-none}
use Rattle.tables.specs.Arrivals.{is_arrival}
use Rattle.tables.specs.Rows.{Rises, Tables, rows_of, tables_in}
use Rattle.tables.specs.Uploads.{is_judged as has_place}
use Rattle.tables.specs.Wants.{is_wanted_by}
use Rattle.tables.specs.declared.rows.UploadRow.{UploadRow}
use Rattle.tables.specs.declared.rows.Want.{Want}
use Rattle.tables_meaning.specs.Archives.{KeepsArchive, book_in_database}
use Rattle.tables_meaning.specs.Cleaning.{counts_row, has_ended, is_current, with_current}
use Rattle.tables_meaning.specs.Finished.{finished}
use Rattle.tables_meaning.specs.Kept.{AreArrivals, AreNumbered, AreStored, AreUploads, arrivals_in, book_in, bytes_of}
use Rattle.tables_meaning.specs.Reads.{bytes_with, due_in, lacks_in, missing_in, row_order, sorted_by, text_in, upload_in, waiting_in, wanting, wanting_rows}
use Rattle.tables_meaning.proofs.BodyLemmas.{are_stored}
use Rattle.tables_meaning.proofs.DeliveredLemmas.{numbered}
use Rattle.tables_meaning.proofs.DueLemmas.{due_are}
use Rattle.tables_meaning.proofs.FinishedLemmas.{body_finished, bytes_with_finished, dues_finished, waiting_finished}
use Rattle.tables_meaning.proofs.LikeLemmas.{stored_like}
use Rattle.tables_meaning.proofs.RowLists.{all_filtered}
use Rattle.tables_meaning.proofs.Searches.{filter_twice, map_same_on}
use Rattle.tables_meaning.proofs.WaitingLemmas.{waits_are}
use Rattle.tables_meaning.proofs.WantingLemmas.{only_one, wanting_unjudged}
use Rattle.tables_meaning.proofs.SweptFinished.{and_true}
use Rattle.tables_meaning.proofs.SortedLemmas.{all_sorted}
use Rattle.tables_cleaning.proofs.CurrentLemmas.{arrivals_current, arrivals_left}
use Rattle.tables_cleaning.proofs.CurrentUploads.{rows_then as wants_turned, uploads_left, wants_left}
use Rattle.keep_tables.specs.Moments.{due_at, lacks_at, missing_at, rows_at, waiting_at}
use Rattle.tables_counting.specs.Moments.{found_current, is_had}
use Rattle.keep_tables.proofs.FoundArrivals.{current_if_found}
use Rattle.keep_tables.proofs.LackLemmas.{entries_here, lacks_turned}

-- ---- lists

-- the elements that a test makes something of are those that pass
chosen : {X : Type 0} (p : X → Bool) (xs : List X) → filter_map (λ x. if p x then Some x else None) xs ≡ filter p xs
chosen p [] = refl
chosen p (x ∷ xs) = elim (p x) as (λ b. cons_option (if b then Some x else None) (filter_map (λ y. if p y then Some y else None) xs) ≡ cond b (x ∷ filter p xs) (filter p xs)) [
  | true ↦ ap (λ ys. x ∷ ys) (chosen p xs)
  | false ↦ chosen p xs
]

made_same : {X Y : Type 0} (f g : X → Option Y) (xs : List X) → AllByRecursion (λ x. f x ≡ g x) xs → filter_map f xs ≡ filter_map g xs
made_same f g [] h = refl
made_same f g (x ∷ xs) h = ap₂ cons_option h.0 (made_same f g xs h.1)

-- the uploads that are not judged and count are those that are not judged and have not ended
left_waits : (j c : Bool) → (not j && c) ≡ (not (not j && not c) && not j)
left_waits true c = refl
left_waits false true = refl
left_waits false false = refl

-- ---- an upload as it is read

abbrev waits_for : UploadRow → List Lack → Waiting
waits_for u lacks = record { name = u.name; print = u.print; lacks = lacks }

-- the upload as it is read, by the bodies that are found
abbrev read_by : (Print → Option (List ℕ)) → UploadRow → Option UploadValue
read_by bytes u = option_and_then (λ body. option_map (λ (c : ChangesValue). record {
  name = u.name;
  print = u.print;
  changes = c;
  texts = map (λ (e : Entry). if has_text e.name then unwrap_or (bytes e.print) [] else []) c.entries;
}) (result_ok (changes_in body))) (bytes u.print)

-- the upload, if it is complete
abbrev due_if : ℕ → Option UploadValue → Option UploadValue
due_if missing upload = if nat_eq missing 0 then upload else None

-- ---- if what arrives counts for good

rows_for_good : (moment : ℕ) (t : Tables) → rows_at None moment t ≡ wanting_rows t
unfolding rows_at wanting_rows
rows_for_good moment t = ap (sorted_by row_order) (chosen (λ (x : ℕ × UploadRow). true) (wanting t) ∙ filter_all (λ (x : ℕ × UploadRow). true) (wanting t) (all_of (λ (x : ℕ × UploadRow). true ≡ true) (λ x. refl) (wanting t)))

missing_for_good : (moment : ℕ) (t : Tables) (id : ℕ) → missing_at None moment t id ≡ missing_in t id
unfolding missing_at missing_in
missing_for_good moment t id = ap length (filter_same (λ (w : Want). not (is_had None moment t w)) (λ w. not w.here) (λ w. ap not (and_true w.here)) (filter (is_wanted_by id) (rows_of t.wants)))

lacks_for_good : (moment : ℕ) (t : Tables) (judged : List Judgement) → AreArrivals (finished t) → AreUploads (finished t) judged → (id : ℕ) → lacks_at None moment t id ≡ lacks_in (arrivals_in (finished t)) t id
lacks_for_good moment t judged arrived uploads id =
    lacks_turned t (arrivals_in (finished t)) (entries_here t judged arrived uploads) None moment t (λ w. w) (λ w. refl) (λ w. refl) (λ w. and_true w.here) id
    (sym (map-id (filter (is_wanted_by id) (rows_of t.wants))))

-- ---- if what arrives counts for some seconds

module _ (t : Tables) (judged : List Judgement) (up : AreNumbered t) (stored : AreStored (finished t)) (arrived : AreArrivals (finished t)) (uploads : AreUploads (finished t) judged)
    (seconds moment : ℕ) where
  abbrev whole : Tables
  whole = finished t

  abbrev left : Tables
  left = with_current (Some seconds) moment whole

  abbrev cur : List ℕ → Print → Bool
  cur name print = is_current (Some seconds) moment whole name print

  abbrev ended : UploadRow → Bool
  ended u = has_ended (Some seconds) moment whole u

  abbrev unjudged : ℕ × UploadRow → Bool
  unjudged x = not (has_place x.1)

  -- an upload of this number has ended
  abbrev has_gone : ℕ → Bool
  has_gone id = list_any (λ x. nat_eq x.0 id && ended x.1) whole.uploads

  same_current : (name : List ℕ) (print : Print) → found_current (Some seconds) moment t name print ≡ cur name print
  unfolding is_current finished
  same_current name print =
      current_if_found t arrived.apart (Some seconds) moment name print
      ∙ ap (λ (o : Option ℕ). option_map_or (λ body. list_any (λ a. is_arrival name body a && counts_row (Some seconds) moment a) (rows_of t.arrivals)) o false) (sym (body_finished print t))

  left_rises : Rises left.uploads
  unfolding with_current finished
  left_rises = ascending-filter (λ a b. a.0 < b.0) (λ x. not (ended x.1)) t.uploads up.uploads

  whole_rises : Rises whole.uploads
  unfolding finished
  whole_rises = up.uploads

  left_uploads : AreUploads left judged
  left_uploads = uploads_left whole (Some seconds) moment judged whole_rises stored arrived uploads

  -- ---- the uploads

  wanting_left : wanting left ≡ filter unjudged (filter (λ x. not (ended x.1)) whole.uploads)
  unfolding with_current
  wanting_left = wanting_unjudged left judged left_rises left_uploads

  wanting_whole : wanting t ≡ filter unjudged whole.uploads
  unfolding finished wanting
  wanting_whole = wanting_unjudged whole judged whole_rises uploads

  rows_then : rows_at (Some seconds) moment t ≡ wanting_rows left
  unfolding rows_at wanting_rows
  rows_then =
      let found : ℕ × UploadRow → Bool = λ x. found_current (Some seconds) moment t x.1.name x.1.print in
      let counted : ℕ × UploadRow → Bool = λ x. cur x.1.name x.1.print in
      let lives : ℕ × UploadRow → Bool = λ x. not (ended x.1) in
      ap (sorted_by row_order)
      (chosen found (wanting t)
      ∙ filter_same found counted (λ x. same_current x.1.name x.1.print) (wanting t)
      ∙ ap (filter counted) wanting_whole
      ∙ sym (filter_twice unjudged counted whole.uploads)
      ∙ filter_same (λ x. unjudged x && counted x) (λ x. lives x && unjudged x) (λ x. left_waits (has_place x.1) (cur x.1.name x.1.print)) whole.uploads
      ∙ filter_twice lives unjudged whole.uploads
      ∙ sym wanting_left)

  -- no upload that is left has ended
  none_gone : AllByRecursion (λ x. has_gone x.0 ≡ false) (wanting_rows left)
  unfolding wanting_rows
  none_gone =
      let HasNotGone : ℕ × UploadRow → Type 0 = λ x. has_gone x.0 ≡ false in
      all_sorted HasNotGone row_order (wanting left)
      (subst (AllByRecursion HasNotGone) (sym wanting_left)
      (all-filter HasNotGone unjudged (filter (λ x. not (ended x.1)) whole.uploads)
      (all_filtered HasNotGone (λ x. not (ended x.1)) whole.uploads
      (all_weaker (λ x. has_gone x.0 ≡ ended x.1) (λ x. not (ended x.1) ≡ true → HasNotGone x) (λ x is stays. is ∙ not-true (ended x.1) stays) whole.uploads
      (only_one (λ x. ended x.1) whole.uploads whole_rises)))))

  -- ---- what they want

  -- a want is here if it counts
  abbrev turn : Want → Want
  turn w = cond (not (cur w.name w.print)) (record w { here = false }) w

  turn_here : (w : Want) → (w.here && cur w.name w.print) ≡ (turn w).here
  turn_here w =
      elim (cur w.name w.print) as (λ b. (w.here && b) ≡ (cond (not b) (record w { here = false }) w).here) [
        | true ↦ and_true w.here
        | false ↦ and_right w.here false refl
      ]

  turn_name : (w : Want) → (turn w).name ≡ w.name
  turn_name w = elim (cur w.name w.print) as (λ b. (cond (not b) (record w { here = false }) w).name ≡ w.name) [ true ↦ refl | false ↦ refl ]

  turn_print : (w : Want) → (turn w).print ≡ w.print
  turn_print w = elim (cur w.name w.print) as (λ b. (cond (not b) (record w { here = false }) w).print ≡ w.print) [ true ↦ refl | false ↦ refl ]

  had_then : (w : Want) → is_had (Some seconds) moment t w ≡ (turn w).here
  had_then w = ap (λ b. w.here && b) (same_current w.name w.print) ∙ turn_here w

  wants_then : (id : ℕ) → has_gone id ≡ false → filter (is_wanted_by id) (rows_of left.wants) ≡ map turn (filter (is_wanted_by id) (rows_of whole.wants))
  wants_then id none =
      ap (filter (is_wanted_by id)) (wants_left whole (Some seconds) moment)
      ∙ wants_turned whole (Some seconds) moment id none (rows_of whole.wants)

  missing_then : (id : ℕ) → has_gone id ≡ false → missing_at (Some seconds) moment t id ≡ missing_in left id
  unfolding missing_at missing_in finished
  missing_then id none =
      let mine : List Want = filter (is_wanted_by id) (rows_of t.wants) in
      ap length (filter_same (λ (w : Want). not (is_had (Some seconds) moment t w)) (λ w. not (turn w).here) (λ w. ap not (had_then w)) mine)
      ∙ sym (length-map (filter (λ w. not (turn w).here) mine) turn)
      ∙ ap length (sym (filter-map (λ (w : Want). not w.here) turn mine))
      ∙ ap (λ (ws : List Want). length (filter (λ w. not w.here) ws)) (sym (wants_then id none))

  lacks_then : (id : ℕ) → has_gone id ≡ false → lacks_at (Some seconds) moment t id ≡ lacks_in (arrivals_in whole) left id
  unfolding finished
  lacks_then id none = lacks_turned t (arrivals_in whole) (entries_here t judged arrived uploads) (Some seconds) moment left turn turn_name turn_print had_then id (wants_then id none)

  -- ---- the reads

  left_stored : AreStored left
  unfolding with_current
  left_stored = stored_like whole left refl refl stored

  left_arrived : AreArrivals left
  left_arrived = arrivals_left whole stored arrived (Some seconds) moment

  same_bytes : (print : Print) → bytes_with whole print ≡ bytes_with left print
  unfolding bytes_with bytes_of with_current
  same_bytes print = refl

  bytes_then : (print : Print) → bytes_with t print ≡ bytes_with left print
  bytes_then print = bytes_with_finished t up.bodies print ∙ same_bytes print

  upload_then : (u : UploadRow) → upload_in t u ≡ upload_in left u
  unfolding upload_in text_in
  upload_then u = λ i. read_by (λ print. bytes_then print i) u

  due_then : (x : ℕ × UploadRow) → has_gone x.0 ≡ false → due_at (Some seconds) moment t x ≡ due_in left x
  due_then x none = ap₂ due_if (missing_then x.0 none) (upload_then x.1)

  waiting_then : (x : ℕ × UploadRow) → has_gone x.0 ≡ false → waiting_at (Some seconds) moment t x ≡ waiting_in (arrivals_in whole) left x
  waiting_then x none = ap (waits_for x.1) (lacks_then x.0 none)

  module _ (b : Book) (same : b.arrivals ≡ arrivals_in left) (judged_are : b.judged ≡ judged) where
    their_uploads : AreUploads left b.judged
    their_uploads = subst (AreUploads left) (sym judged_are) left_uploads

    pub dues_then : filter_map (due_at (Some seconds) moment t) (rows_at (Some seconds) moment t) ≡ map (upload_of b.arrivals) (due b)
    dues_then =
        ap (filter_map (due_at (Some seconds) moment t)) rows_then
        ∙ made_same (due_at (Some seconds) moment t) (due_in left) (wanting_rows left)
        (all_weaker (λ x. has_gone x.0 ≡ false) (λ x. due_at (Some seconds) moment t x ≡ due_in left x) due_then (wanting_rows left) none_gone)
        ∙ due_are left b same left_rises their_uploads left_stored left_arrived

    pub waits_then : map (waiting_at (Some seconds) moment t) (rows_at (Some seconds) moment t) ≡ map (waiting_of (arrivals_in whole) b.arrivals) (unjudged_of b)
    waits_then =
        ap (map (waiting_at (Some seconds) moment t)) rows_then
        ∙ map_same_on (waiting_at (Some seconds) moment t) (waiting_in (arrivals_in whole) left) (wanting_rows left)
        (all_weaker (λ x. has_gone x.0 ≡ false) (λ x. waiting_at (Some seconds) moment t x ≡ waiting_in (arrivals_in whole) left x) waiting_then (wanting_rows left) none_gone)
        ∙ waits_are (arrivals_in whole) left b same left_rises their_uploads

-- ---- the book at a moment

module _ (db : Database) (config : ConfigValue) (judged : List Judgement) (shown : ShelvesValue) (dates : List ℕ) (keeps : KeepsArchive db config judged shown dates) where
  abbrev rows : Tables
  rows = tables_in db

  abbrev book_then : ℕ → Book
  book_then moment = at_moment moment (book_in_database db config judged shown dates)

  rise : AreNumbered rows
  rise = numbered db rows keeps.held

  all_stored : AreStored (finished rows)
  all_stored = are_stored (finished rows) keeps.kept.bodies

  judged_then : (moment : ℕ) → (book_then moment).judged ≡ judged
  unfolding at_moment book_in
  judged_then moment = refl

  -- the arrivals that count
  arrivals_then : (s : Option ℕ) → s ≡ span config → (moment : ℕ) → (book_then moment).arrivals ≡ current s moment (arrivals_in (finished rows))
  unfolding at_moment book_in
  arrivals_then s same moment = ap (λ o. current o moment (arrivals_in (finished rows))) (sym same)

  uploads_then : (moment : ℕ) → AreUploads (finished rows) (book_then moment).judged
  uploads_then moment = subst (AreUploads (finished rows)) (sym (judged_then moment)) keeps.kept.uploads

  -- THE UPLOADS THAT ARE DUE at a moment.
  pub dues_at : (seconds : Option ℕ) → seconds ≡ span config → (moment : ℕ)
      → filter_map (due_at seconds moment rows) (rows_at seconds moment rows) ≡ map (upload_of (book_then moment).arrivals) (due (book_then moment))
  dues_at None same moment =
      let alike : (x : ℕ × UploadRow) → due_at None moment rows x ≡ due_in rows x = λ x. ap (λ n. due_if n (upload_in rows x.1)) (missing_for_good moment rows x.0) in
      ap (filter_map (due_at None moment rows)) (rows_for_good moment rows)
      ∙ made_same (due_at None moment rows) (due_in rows) (wanting_rows rows) (all_of (λ x. due_at None moment rows x ≡ due_in rows x) alike (wanting_rows rows))
      ∙ dues_finished rows (book_then moment) rise.bodies rise.uploads (arrivals_then None same moment ∙ current-none moment (arrivals_in (finished rows))) (uploads_then moment)
      keeps.kept.bodies keeps.kept.arrivals
  dues_at (Some seconds) same moment =
      dues_then rows judged rise all_stored keeps.kept.arrivals keeps.kept.uploads seconds moment (book_then moment)
      (arrivals_then (Some seconds) same moment ∙ sym (arrivals_current (finished rows) all_stored keeps.kept.arrivals (Some seconds) moment)) (judged_then moment)

  -- all arrivals of the book
  all_arrivals : arrivals_in (finished rows) ≡ (book_in_database db config judged shown dates).arrivals
  unfolding book_in
  all_arrivals = refl

  -- WHAT UPLOADS WAIT FOR at a moment, over all arrivals.
  waits_over : (seconds : Option ℕ) → seconds ≡ span config → (moment : ℕ)
      → map (waiting_at seconds moment rows) (rows_at seconds moment rows) ≡ map (waiting_of (arrivals_in (finished rows)) (book_then moment).arrivals) (unjudged_of (book_then moment))
  waits_over None same moment =
      let alike : (x : ℕ × UploadRow) → waiting_at None moment rows x ≡ waiting_in (arrivals_in (finished rows)) rows x =
      λ x. ap (waits_for x.1) (lacks_for_good moment rows judged keeps.kept.arrivals keeps.kept.uploads x.0) in
      ap (map (waiting_at None moment rows)) (rows_for_good moment rows)
      ∙ map_same (waiting_at None moment rows) (waiting_in (arrivals_in (finished rows)) rows) alike (wanting_rows rows)
      ∙ waiting_finished rows (book_then moment) (arrivals_then None same moment ∙ current-none moment (arrivals_in (finished rows))) rise.uploads (uploads_then moment)
  waits_over (Some seconds) same moment =
      waits_then rows judged rise all_stored keeps.kept.arrivals keeps.kept.uploads seconds moment (book_then moment)
      (arrivals_then (Some seconds) same moment ∙ sym (arrivals_current (finished rows) all_stored keeps.kept.arrivals (Some seconds) moment)) (judged_then moment)

  pub waits_at : (seconds : Option ℕ) → seconds ≡ span config → (moment : ℕ)
      → map (waiting_at seconds moment rows) (rows_at seconds moment rows) ≡ waiting_list moment (book_in_database db config judged shown dates)
  unfolding waiting_list
  waits_at seconds same moment =
      waits_over seconds same moment ∙ ap (λ all. map (waiting_of all (book_then moment).arrivals) (unjudged_of (book_then moment))) all_arrivals
