-- The rows of an archive, copied with each arrival as of a moment, are still those of an archive.
use Rattle.std.proofs.Common.{◌≡◌, ◌≢◌, ◌≤◌, ◌<◌, ℕ, ◌+◌, false, not, ◌&&◌, ◌||◌, nat_eq, List, [], ◌∷◌, ◌++◌, map, filter, find, length, Some, option_map, IsTrue, refl, sym, ap, subst, ◌∙◌}
use Rattle.std.specs.Prelude.{All, AllPairs}
use Rattle.std.specs.List.{cons_option, enumerate_from, flat_map, list_any}
use Rattle.std.specs.Option.{option_and_then}
use Rattle.std.specs.FinMap.{get}
use Rattle.std.proofs.lemmas.List.Elements.{All-map, All-weaker}
use Rattle.std.proofs.lemmas.List.Sorted.{IsPermutation-trans}
use Rattle.sqlite_keyed.specs.Lists.{sort_by as sorted_by}
use Rattle.sqlite_keyed.proofs.ListLemmas.{IsPermutation-same, map-map}
use Rattle.rules.specs.Values.{ConfigValue}
use Rattle.rules.specs.declared.suite.Suite.{Suite}
use Rattle.sums.specs.Prints.{print as print_of}
use Rattle.sums.specs.declared.entries.Entry.{Entry}
use Rattle.sums.proofs.Reading.{pairs_map}
use Rattle.suites.specs.Shelves.{ShelvesValue, pool}
use Rattle.suites.specs.declared.key.ShelfKey.{ShelfKey}
use Rattle.book.specs.Book.{Candidate, candidate_of, candidates, is_body_of, is_judged, is_there, latest}
use Rattle.book.specs.Keeping.{IsDeliverable, sign_of}
use Rattle.book.specs.declared.arrival.Arrival as book
use Rattle.book.specs.declared.change.Judgement.{Judgement}
use Rattle.tables.specs.Arrivals.{is_arrival}
use Rattle.tables.specs.Files.{is_file_at}
use Rattle.tables.specs.Rows.{Tables, first_number, rows_of}
use Rattle.tables.specs.Uploads.{is_judged as has_place}
use Rattle.tables.specs.Wants.{is_wanted_by}
use Rattle.tables.specs.declared.rows.ArrivalRow.{ArrivalRow}
use Rattle.tables.specs.declared.rows.BodyRow.{BodyRow}
use Rattle.tables.specs.declared.rows.File.{File}
use Rattle.tables.specs.declared.rows.ItemRow.{ItemRow}
use Rattle.tables.specs.declared.rows.Piece.{Piece}
use Rattle.tables.specs.declared.rows.Ref.{Ref}
use Rattle.tables.specs.declared.rows.UploadRow.{UploadRow}
use Rattle.tables.specs.declared.rows.Want.{Want}
use Rattle.tables_meaning.specs.Kept.{AreArrivals, AreBodies, AreFiles, AreItems, AreUploads, IsBook, arrival_in, arrivals_in, bytes_of, files_in, has_body, is_on, is_used, pieces_among, pieces_for, print_at, refs_among, shown_row, sign_in, used_in, want_order, wants_in}
use Rattle.old_book.specs.Copying.{anew, arrived_at}
use Rattle.migrate.proofs.FoundedRows.{meta_for}

-- ---- lists

rows_anew : {X : Type 0} (n : ℕ) (xs : List X) → map (λ x. x.1) (enumerate_from n xs) ≡ xs
rows_anew n [] = refl
rows_anew n (x ∷ xs) = ap (λ ys. x ∷ ys) (rows_anew (n + 1) xs)

-- ---- arrivals as of a moment

abbrev pub as_of : ℕ → book.Arrival → book.Arrival
as_of moment a = record a { moment = moment }

-- The candidates do not depend on the moment.
candidates_then : (moment : ℕ) (arrivals : List book.Arrival) → candidates (map (as_of moment) arrivals) ≡ candidates arrivals
unfolding candidate_of
candidates_then moment [] = refl
candidates_then moment (a ∷ arrivals) = ap (cons_option (candidate_of a)) (candidates_then moment arrivals)

there_then : (moment : ℕ) (arrivals : List book.Arrival) (entry : Entry) → is_there (map (as_of moment) arrivals) entry ≡ is_there arrivals entry
unfolding is_there is_body_of
there_then moment [] entry = refl
there_then moment (a ∷ arrivals) entry = ap (λ b. is_body_of entry a || b) (there_then moment arrivals entry)

-- ---- the copied rows

module _ (t : Tables) (moment : ℕ) (text : List ℕ) where
  -- the copied rows, with a configuration of this text, and the texts and dates that were there
  abbrev pub copy : Tables
  copy = record t {
    meta = meta_for text;
    pieces = anew (rows_of t.pieces);
    arrivals = anew (map (arrived_at moment) (rows_of t.arrivals));
    wants = anew (rows_of t.wants);
    refs = anew (rows_of t.refs);
    files = anew (rows_of t.files);
  }

  pieces_rows : rows_of copy.pieces ≡ rows_of t.pieces
  pieces_rows = rows_anew first_number (rows_of t.pieces)

  arrivals_rows : rows_of copy.arrivals ≡ map (arrived_at moment) (rows_of t.arrivals)
  arrivals_rows = rows_anew first_number (map (arrived_at moment) (rows_of t.arrivals))

  wants_rows : rows_of copy.wants ≡ rows_of t.wants
  wants_rows = rows_anew first_number (rows_of t.wants)

  refs_rows : rows_of copy.refs ≡ rows_of t.refs
  refs_rows = rows_anew first_number (rows_of t.refs)

  files_rows : rows_of copy.files ≡ rows_of t.files
  files_rows = rows_anew first_number (rows_of t.files)

  -- ---- what is read of them

  bytes_copied : bytes_of copy ≡ bytes_of t
  unfolding bytes_of
  bytes_copied = λ i id. flat_map (λ (p : Piece). p.bytes) (pieces_among (pieces_rows i) id)

  pub arrivals_copied : arrivals_in copy ≡ map (as_of moment) (arrivals_in t)
  unfolding arrivals_in
  arrivals_copied =
      let rows = rows_of t.arrivals in
      ap (map (arrival_in copy)) arrivals_rows
      ∙ map-map (arrival_in copy) (arrived_at moment) rows
      ∙ (λ i. map (λ (a : ArrivalRow). record { name = a.name; body = bytes_copied i a.body; moment = moment }) rows)
      ∙ sym (map-map (as_of moment) (arrival_in t) rows)

  pub files_copied : files_in copy ≡ files_in t
  unfolding files_in
  files_copied = λ i path. option_map (λ (f : File). bytes_copied i f.body) (find (is_file_at path) (files_rows i))

  used_copied : used_in copy ≡ used_in t
  used_copied =
      let rows = rows_of t.arrivals in
      let bodies : map (λ (a : ArrivalRow). a.body) (rows_of copy.arrivals) ≡ map (λ (a : ArrivalRow). a.body) rows =
      ap (map (λ (a : ArrivalRow). a.body)) arrivals_rows ∙ map-map (λ (a : ArrivalRow). a.body) (arrived_at moment) rows in
      λ i. bodies i ++ map (λ (f : File). f.body) (files_rows i)

  wants_copied : wants_in copy ≡ wants_in t
  unfolding wants_in
  wants_copied = λ i id. sorted_by want_order (map (λ (w : Want). (w.name, w.print, w.here)) (filter (is_wanted_by id) (wants_rows i)))

  -- ---- each fact of an archive

  bodies_kept : AreBodies t → AreBodies copy
  unfolding bytes_of has_body is_used
  bodies_kept h = record {
    whole = subst (λ (rows : List Piece). All (λ (x : ℕ × BodyRow). x.1.print ≡ Some (print_of (flat_map (λ (p : Piece). p.bytes) (pieces_among rows x.0)))) t.bodies) (sym pieces_rows) h.whole;
    pieces = subst (λ (rows : List Piece). All (λ (x : ℕ × BodyRow). pieces_among rows x.0 ≡ pieces_for x.0 (flat_map (λ (p : Piece). p.bytes) (pieces_among rows x.0))) t.bodies) (sym pieces_rows) h.pieces;
    apart = h.apart;
    used = subst (λ (ids : List ℕ). All (λ (x : ℕ × BodyRow). IsTrue (list_any (λ id. nat_eq id x.0) ids)) t.bodies) (sym used_copied) h.used;
    owned = subst (All (λ (p : Piece). IsTrue (has_body t p.body))) (sym pieces_rows) h.owned;
  }

  arrivals_kept : moment ≤ latest → AreArrivals t → AreArrivals copy
  unfolding has_body
  arrivals_kept early h =
      let rows = rows_of t.arrivals in
      let may : book.Arrival → Type 0 = λ a. IsDeliverable a.name a.body × (a.moment ≤ latest) in
      record {
        bodies = subst (All (λ (a : ArrivalRow). IsTrue (has_body t a.body))) (sym arrivals_rows) (All-map (λ (a : ArrivalRow). IsTrue (has_body t a.body)) (arrived_at moment) rows h.bodies);
        apart =
            subst (AllPairs (λ (a b : ArrivalRow). is_arrival a.name a.body b ≡ false)) (sym arrivals_rows)
            (pairs_map (λ (a b : ArrivalRow). is_arrival a.name a.body b ≡ false) (arrived_at moment) rows h.apart);
        deliverable =
            subst (All may) (sym arrivals_copied)
            (All-map may (as_of moment) (arrivals_in t) (All-weaker may (λ a. may (as_of moment a)) (λ a p. (p.0, early)) (arrivals_in t) h.deliverable));
      }

  uploads_kept : (judged : List Judgement) → AreUploads t judged → AreUploads copy judged
  uploads_kept judged h =
      let asked : candidates (arrivals_in copy) ≡ candidates (arrivals_in t) = ap candidates arrivals_copied ∙ candidates_then moment (arrivals_in t) in
      let there : (e : Entry) → is_there (arrivals_in copy) e ≡ is_there (arrivals_in t) e = λ e. ap (λ arrivals. is_there arrivals e) arrivals_copied ∙ there_then moment (arrivals_in t) e in
      record {
        waiting =
            IsPermutation-trans _ _ _
            (IsPermutation-same _ _ (λ i. map (λ (x : ℕ × UploadRow). (sign_in x.1, wants_copied i x.0)) (filter (λ x. not (has_place x.1)) t.uploads)))
            (IsPermutation-trans _ _ _ h.waiting
            (IsPermutation-same _ _
            (sym (λ i. map (λ (c : Candidate). (sign_of c, sorted_by want_order (map (λ (e : Entry). (e.name, e.print, there e i)) c.changes.entries))) (filter (λ c. not (is_judged judged c)) (asked i))))));
        owned = subst (All (λ (w : Want). IsTrue (list_any (λ x. nat_eq x.0 w.upload && not (has_place x.1)) t.uploads))) (sym wants_rows) h.owned;
        unjudged = h.unjudged;
        places = h.places;
        from_one = h.from_one;
        placed_apart = h.placed_apart;
        apart = h.apart;
      }

  items_kept : (suites : List Suite) (shown : ShelvesValue) → AreItems t suites shown → AreItems copy suites shown
  items_kept suites shown h = record {
    are = subst (λ (rows : List Ref). (key : ShelfKey) → key.suite < length suites → option_map (λ (x : ℕ × ItemRow). (x.1, refs_among rows x.0)) (find (is_on suites key) t.items)
        ≡ option_and_then (λ x. option_map (shown_row suites key x.0) (get shown key)) (find (is_on suites key) t.items)) (sym refs_rows) h.are;
    all = h.all;
    within = h.within;
    rows = h.rows;
    apart = h.apart;
    owned = subst (All (λ (r : Ref). IsTrue (list_any (λ x. nat_eq x.0 r.item) t.items))) (sym refs_rows) h.owned;
  }

  files_kept : (shown : ShelvesValue) → AreFiles t shown → AreFiles copy shown
  unfolding has_body
  files_kept shown h = record {
    are = subst (λ (rows : List File). (path : List ℕ) → option_and_then (λ f. print_at t f.body) (find (is_file_at path) rows) ≡ get (pool shown) path) (sym files_rows) h.are;
    bodies = subst (All (λ (f : File). IsTrue (has_body t f.body))) (sym files_rows) h.bodies;
    apart = subst (AllPairs (λ (f g : File). f.path ≢ g.path)) (sym files_rows) h.apart;
  }

-- THE ARCHIVE, copied.
pub copied_kept : (t : Tables) (config : ConfigValue) (judged : List Judgement) (shown : ShelvesValue) (dates : List ℕ) (moment : ℕ) → IsBook t config judged shown dates → moment ≤ latest
    → IsBook (copy t moment config.text) config judged shown dates
copied_kept t config judged shown dates moment kept early = record {
  meta = refl;
  read = kept.read;
  sound = kept.sound;
  told = kept.told;
  signed = kept.signed;
  bodies = bodies_kept t moment config.text kept.bodies;
  arrivals = arrivals_kept t moment config.text early kept.arrivals;
  uploads = uploads_kept t moment config.text judged kept.uploads;
  items = items_kept t moment config.text config.suites shown kept.items;
  files = files_kept t moment config.text shown kept.files;
  texts = kept.texts;
  date_rows = kept.date_rows;
  dated = kept.dated;
  in_range = kept.in_range;
}
