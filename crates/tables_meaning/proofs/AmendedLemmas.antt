-- The book after a change.
use Rattle.std.proofs.Common.{◌≡◌, ◌≤◌, ◌||◌, ℕ, Bool, true, false, cond, if◌then◌else◌, List, [], ◌∷◌, ◌++◌, length, map, filter, find, fold, Option, Some, None, is_some, Ok, IsPermutation, refl, sym, ap, subst, ◌∙◌, true≢false}
use Rattle.std.proofs.Math.Path.{fun_ext}
use Rattle.std.proofs.lemmas.Bool.Decides.{Decides-eqb}
use Rattle.std.specs.FinMap.{get}
use Rattle.std.specs.List.{enumerate_from, flat_map, list_any, zip}
use Rattle.std.specs.Option.{option_and_then, option_map, option_or}
use Rattle.std.specs.Prelude.{All, Contains, IsTrue, nat_eq}
use Rattle.book.specs.Book.{Book, amended, dates_past, files_showing, judgements, latest, shown_past, stored_body}
use Rattle.book.specs.Keeping.{AreRenewed, HasEachBody}
use Rattle.book.specs.Scan.{some_touches}
use Rattle.book.specs.declared.arrival.Arrival.{Arrival}
use Rattle.book.specs.declared.change.Change.{Change}
use Rattle.book.specs.declared.change.IndexText.{IndexText}
use Rattle.book.specs.declared.change.Judgement.{Judgement}
use Rattle.book.specs.declared.change.Step.{Step}
use Rattle.book.proofs.Prints.{same_print-Decides}
use Rattle.book.proofs.Finds.{found_in, found_passes}
use Rattle.rules.specs.Configuration.{config_in}
use Rattle.rules.specs.Values.{ConfigValue}
use Rattle.rules.specs.declared.suite.Suite.{Suite}
use Rattle.suites.specs.Shelves.{ShelvesValue, AreSound, pool}
use Rattle.suites.specs.Told.{AreTold}
use Rattle.sums.specs.Prints.{print as print_of, same_print}
use Rattle.sums.specs.declared.print.Print.{Print}
use Rattle.sums.proofs.Members.{all_at, by_name, from_map, here, there}
use Rattle.tables.specs.Dates.{with_new_date}
use Rattle.tables.specs.Files.{is_file_at}
use Rattle.tables.specs.Rows.{Numbered, Tables, rows_of}
use Rattle.tables.specs.Texts.{with_new_text}
use Rattle.tables.specs.declared.rows.ArrivalRow.{ArrivalRow}
use Rattle.tables.specs.declared.rows.BodyRow.{BodyRow}
use Rattle.tables.specs.declared.rows.Date.{Date}
use Rattle.tables.specs.declared.rows.File.{File}
use Rattle.tables.specs.declared.rows.TextRow.{TextRow}
use Rattle.tables.specs.declared.rows.Piece.{Piece}
use Rattle.indices.specs.Indices.{all_texts}
use Rattle.tables_meaning.specs.Kept.{AreArrivals, AreFiles, AreItems, AreSigned, AreStored, AreUploads, IsBook, arrival_in, arrivals_in, book_in, bytes_of, date_row, files_in, has_body, pieces_among, print_at, wants_in}
use Rattle.tables_meaning.specs.Making.{with_new_dates, with_new_texts}
use Rattle.tables_meaning.proofs.BodyLemmas.{are_stored}
use Rattle.tables_meaning.proofs.DateLemmas.{in_range_past, length_past, renewed_dates}
use Rattle.indices.proofs.Paths.{config_codenames}
use Rattle.tables_meaning.proofs.PathLemmas.{config_paths}
use Rattle.tables_meaning.proofs.SweptLemmas.{IsUnswept}
use Rattle.tables_meaning.proofs.TextLemmas.{entry_of, renewed_texts}

-- ---- what a search finds

pub found : {X : Type 0} (p : X → Bool) (xs : List X) → list_any p xs ≡ true → (x : X) × Contains xs x × (p x ≡ true) × (find p xs ≡ Some x)
found p [] h = cc
found {X} p (x ∷ xs) h = by_case (p x) refl h (found p xs)
  where
    by_case : (b : Bool) → p x ≡ b → (b || list_any p xs) ≡ true → (list_any p xs ≡ true → (y : X) × Contains xs y × (p y ≡ true) × (find p xs ≡ Some y))
        → (y : X) × Contains (x ∷ xs) y × (p y ≡ true) × (cond b (Some x) (find p xs) ≡ Some y)
    by_case true e any more = (x, here x xs, e, refl)
    by_case false e any more = let rest = more any in (rest.0, there x rest.0 xs rest.1, rest.2, rest.3)

-- ---- bodies are distinguished by their prints

module _ (t : Tables) (bodies : AreStored t) where
  -- the body of a number has the print of its bytes
  body_at : (id : ℕ) → IsTrue (has_body t id)
      → (x : ℕ × BodyRow) × Contains t.bodies x × (x.0 ≡ id) × (find (λ (y : ℕ × BodyRow). nat_eq y.0 id) t.bodies ≡ Some x) × (x.1.print ≡ Some (print_of (bytes_of t id)))
  unfolding has_body
  body_at id h =
      let x = found (λ (y : ℕ × BodyRow). nat_eq y.0 id) t.bodies h in
      let is : x.0.0 ≡ id = (Decides-eqb x.0.0 id).0 x.2 in
      (x.0, x.1, is, x.3, all_at (λ (y : ℕ × BodyRow). y.1.print ≡ Some (print_of (bytes_of t y.0))) t.bodies x.0 bodies.whole x.1 ∙ ap (λ n. Some (print_of (bytes_of t n))) is)

  pub print_is : (id : ℕ) → IsTrue (has_body t id) → print_at t id ≡ Some (print_of (bytes_of t id))
  print_is id h = let x = body_at id h in ap (option_and_then (λ (y : ℕ × BodyRow). y.1.print)) x.3 ∙ x.4

  -- bodies of one print have the same bytes
  pub same_bytes : (i j : ℕ) → IsTrue (has_body t i) → IsTrue (has_body t j) → print_of (bytes_of t i) ≡ print_of (bytes_of t j) → bytes_of t i ≡ bytes_of t j
  same_bytes i j h k e =
      let x = body_at i h in
      let y = body_at j k in
      let same : x.0 ≡ y.0 = by_name (λ (z : ℕ × BodyRow). z.1.print) t.bodies x.0 y.0 bodies.apart x.1 y.1 (x.4 ∙ ap Some e ∙ sym y.4) in
      ap (bytes_of t) (sym x.2 ∙ ap (λ (z : ℕ × BodyRow). z.0) same ∙ y.2)

  module _ (arrivals : AreArrivals t) (id : ℕ) (known : IsTrue (has_body t id)) where
    abbrev body : List ℕ
    body = bytes_of t id

    abbrev fits : Arrival → Bool
    fits a = same_print (print_of a.body) (print_of body)

    -- a body that arrived with its print has its bytes
    arrived : (o : Option Arrival) → find fits (arrivals_in t) ≡ o → is_some (option_map (λ (a : Arrival). a.body) o) ≡ true
        → option_map (λ (a : Arrival). a.body) o ≡ Some body
    unfolding arrivals_in
    arrived None e some = absurd (true≢false (sym some))
    arrived (Some a) e some =
        let row = from_map (arrival_in t) a (rows_of t.arrivals) (found_in fits (map (arrival_in t) (rows_of t.arrivals)) a e) in
        let bytes : bytes_of t row.0.body ≡ a.body = ap (λ (b : Arrival). b.body) row.2 in
        let same : same_print (print_of a.body) (print_of body) ≡ true = found_passes fits (map (arrival_in t) (rows_of t.arrivals)) a e in
        let print : print_of (bytes_of t row.0.body) ≡ print_of body = ap print_of bytes ∙ (same_print-Decides (print_of a.body) (print_of body)).0 same in
        let there_is : IsTrue (has_body t row.0.body) = all_at (λ (b : ArrivalRow). IsTrue (has_body t b.body)) (rows_of t.arrivals) row.0 arrivals.bodies row.1 in
        ap Some (sym bytes ∙ same_bytes row.0.body id there_is known print)

    -- the old body if its print fits
    abbrev if_fits : Option (List ℕ) → Option (List ℕ)
    if_fits = option_and_then (λ bytes. if same_print (print_of bytes) (print_of body) then Some bytes else None)

    -- the old file if its print fits, or one that arrived: if there is either, it has these bytes
    old_or_arrived : (o : Option File) → ((f : File) → o ≡ Some f → IsTrue (has_body t f.body)) → (a : Option Arrival) → find fits (arrivals_in t) ≡ a
        → is_some (option_or (if_fits (option_map (λ (f : File). bytes_of t f.body) o)) (option_map (λ (b : Arrival). b.body) a)) ≡ true
        → option_or (if_fits (option_map (λ (f : File). bytes_of t f.body) o)) (option_map (λ (b : Arrival). b.body) a) ≡ Some body
    old_or_arrived None there_is a e some = arrived a e some
    old_or_arrived (Some f) there_is a e some = by_case (same_print (print_of (bytes_of t f.body)) (print_of body)) refl some
      where
        by_case : (b : Bool) → same_print (print_of (bytes_of t f.body)) (print_of body) ≡ b
            → is_some (option_or (if b then Some (bytes_of t f.body) else None) (option_map (λ (x : Arrival). x.body) a)) ≡ true
            → option_or (if b then Some (bytes_of t f.body) else None) (option_map (λ (x : Arrival). x.body) a) ≡ Some body
        by_case true same some = ap Some (same_bytes f.body id (there_is f refl) known ((same_print-Decides (print_of (bytes_of t f.body)) (print_of body)).0 same))
        by_case false same some = arrived a e some

    is_stored : (book : Book) (path : List ℕ) → book.files ≡ files_in t → book.arrivals ≡ arrivals_in t → ((f : File) → Contains (rows_of t.files) f → IsTrue (has_body t f.body))
        → IsTrue (is_some (stored_body book path (print_of body))) → stored_body book path (print_of body) ≡ Some body
    unfolding stored_body files_in
    is_stored book path files arrived_are there_is some =
        let file : Option (List ℕ) = option_map (λ (f : File). bytes_of t f.body) (find (is_file_at path) (rows_of t.files)) in
        let came : Option (List ℕ) = option_map (λ (a : Arrival). a.body) (find fits (arrivals_in t)) in
        let is : stored_body book path (print_of body) ≡ option_or (if_fits file) came =
        ap (λ (all : List Arrival). option_or (if_fits (book.files path)) (option_map (λ (a : Arrival). a.body) (find fits all))) arrived_are
        ∙ ap (λ (fs : List ℕ → Option (List ℕ)). option_or (if_fits (fs path)) came) files in
        is
        ∙ old_or_arrived (find (is_file_at path) (rows_of t.files)) (λ f e. there_is f (found_in (is_file_at path) (rows_of t.files) f e)) (find fits (arrivals_in t)) refl
        (ap is_some (sym is) ∙ some)

-- ---- the files after a change

-- the tables have the bodies and the arrivals that these have
pub record KeepsBodies (t new : Tables) : Type 0 where
  pub bodies : new.bodies ≡ t.bodies
  pub pieces : new.pieces ≡ t.pieces
  pub arrivals : new.arrivals ≡ t.arrivals

module _ (t new : Tables) (keeps : KeepsBodies t new) where
  pub bytes_kept : (id : ℕ) → bytes_of new id ≡ bytes_of t id
  unfolding bytes_of
  bytes_kept id = ap (λ (ps : Numbered Piece). flat_map (λ (p : Piece). p.bytes) (pieces_among (rows_of ps) id)) keeps.pieces

  pub arrivals_kept : arrivals_in new ≡ arrivals_in t
  unfolding arrivals_in
  arrivals_kept =
      ap (λ (rows : Numbered ArrivalRow). map (arrival_in new) (rows_of rows)) keeps.arrivals
      ∙ (λ i. map (λ (a : ArrivalRow). record { name = a.name; body = bytes_kept a.body i; moment = a.moment }) (rows_of t.arrivals))

  print_kept : (id : ℕ) → print_at new id ≡ print_at t id
  print_kept id = ap (λ (bs : Numbered BodyRow). option_and_then (λ (x : ℕ × BodyRow). x.1.print) (find (λ (x : ℕ × BodyRow). nat_eq x.0 id) bs)) keeps.bodies

  body_kept : (id : ℕ) → IsTrue (has_body new id) → IsTrue (has_body t id)
  unfolding has_body
  body_kept id h = subst (λ (bs : Numbered BodyRow). IsTrue (list_any (λ (x : ℕ × BodyRow). nat_eq x.0 id) bs)) keeps.bodies h

  -- THE FILES of the pool after a change are those of the book after it, if the book has each body.
  pub files_amended : (book : Book) (shown after : ShelvesValue) → AreStored t → AreArrivals t → AreFiles t shown → AreFiles new after → book.files ≡ files_in t → book.arrivals ≡ arrivals_in t
      → ((path : List ℕ) (print : Print) → get (pool after) path ≡ Some print → IsTrue (is_some (stored_body book path print)))
      → (path : List ℕ) → files_in new path ≡ files_showing book after path
  unfolding files_in
  files_amended book shown after bodies arrivals old files files_are arrivals_are has path = by_case (find (is_file_at path) (rows_of new.files)) refl
    where
      by_case : (o : Option File) → find (is_file_at path) (rows_of new.files) ≡ o → option_map (λ (f : File). bytes_of new f.body) o ≡ files_showing book after path
      by_case None e =
          let none : get (pool after) path ≡ None = sym (files.are path) ∙ ap (option_and_then (λ (f : File). print_at new f.body)) e in
          sym (ap (option_and_then (stored_body book path)) none)
      by_case (Some f) e =
          let there_is : IsTrue (has_body t f.body) = body_kept f.body (all_at (λ (g : File). IsTrue (has_body new g.body)) (rows_of new.files) f files.bodies (found_in (is_file_at path) (rows_of new.files) f e)) in
          let print : get (pool after) path ≡ Some (print_of (bytes_of t f.body)) =
          sym (files.are path) ∙ ap (option_and_then (λ (g : File). print_at new g.body)) e ∙ print_kept f.body ∙ print_is t bodies f.body there_is in
          ap Some (bytes_kept f.body)
          ∙ sym (is_stored t bodies arrivals f.body there_is book path files_are arrivals_are (λ g at. all_at (λ (x : File). IsTrue (has_body t x.body)) (rows_of t.files) g old.bodies at)
          (has path (print_of (bytes_of t f.body)) print))
          ∙ sym (ap (option_and_then (stored_body book path)) print)

-- THE BOOK that the tables keep after a change is the amended one, if it had each body.
pub amended_book : (t new : Tables) (config : ConfigValue) (judged : List Judgement) (shown : ShelvesValue) (dates : List ℕ) (change : Change)
    → IsBook t config judged shown dates → KeepsBodies t new → AreFiles new (shown_past shown change.steps) → HasEachBody (book_in config judged shown dates t) change
    → book_in config (judged ++ judgements change.steps) (shown_past shown change.steps) (dates_past change.moment dates change.steps) new ≡ amended (book_in config judged shown dates t) change
unfolding book_in amended
amended_book t new config judged shown dates change kept keeps files has =
    let arrivals : arrivals_in new ≡ arrivals_in t = arrivals_kept t new keeps in
    let bodies : files_in new ≡ files_showing (book_in config judged shown dates t) (shown_past shown change.steps) =
    fun_ext (files_amended t new keeps (book_in config judged shown dates t) shown (shown_past shown change.steps) (are_stored t kept.bodies) kept.arrivals kept.files files refl refl has) in
    λ i. record {
      config = config;
      arrivals = arrivals i;
      judged = judged ++ judgements change.steps;
      shown = shown_past shown change.steps;
      files = bodies i;
      dates = dates_past change.moment dates change.steps;
    }

-- ---- the rows of texts and of dates after a change

-- the rows of texts and of dates are those of an archive that shows this, with these dates
pub record AreTextsAndDates (t : Tables) (config : ConfigValue) (shown : ShelvesValue) (dates : List ℕ) : Type 0 where
  pub texts : IsPermutation (map entry_of (rows_of t.texts)) (all_texts config shown dates)
  pub date_rows : IsPermutation (rows_of t.dates) (map date_row (zip config.suites dates))
  pub dated : length dates ≡ length config.suites
  pub in_range : All (λ d. d ≤ latest) dates

-- The rows of texts and of dates after a change are those of what it leaves. The rows before it are those of the tables, or
-- of tables that have the same texts and dates.
pub renewed_rows : (t now : Tables) (config : ConfigValue) (judged : List Judgement) (shown : ShelvesValue) (dates : List ℕ) (change : Change)
    → IsBook t config judged shown dates → now.texts ≡ t.texts → now.dates ≡ t.dates → change.moment ≤ latest → config_in config.text ≡ Ok config
    → AreRenewed (book_in config judged shown dates t) (amended (book_in config judged shown dates t) change) change.texts
    → AreTextsAndDates (with_new_dates config.suites change.moment change.steps (with_new_texts change.texts now)) config (shown_past shown change.steps) (dates_past change.moment dates change.steps)
renewed_rows t now config judged shown dates change kept same_texts same_dates small read renewed = record {
  texts = renewed_texts t config judged shown dates change (config_paths config read) renewed now (subst (λ rows. IsPermutation (map entry_of (rows_of rows)) (all_texts config shown dates)) (sym same_texts) kept.texts) (length_past change.moment change.steps dates);
  date_rows = renewed_dates change.moment change.steps config.suites dates change.texts now (config_codenames config read) (subst (λ rows. IsPermutation (rows_of rows) (map date_row (zip config.suites dates))) (sym same_dates) kept.date_rows);
  dated = length_past change.moment change.steps dates ∙ kept.dated;
  in_range = in_range_past change.moment change.steps dates small kept.in_range;
}

-- ---- the tables after a change

-- the tables with other rows of texts and of dates
abbrev with_others : Tables → Numbered TextRow → Numbered Date → Tables
with_others t texts dates = record t { texts = texts; dates = dates }

texts_only : (texts : List IndexText) (t : Tables) → with_new_texts texts t ≡ record t { texts = (with_new_texts texts t).texts }
texts_only [] t = refl
texts_only (x ∷ xs) t = texts_only xs (with_new_text x.path x.text t)

module _ (moment : ℕ) (steps : List Step) where
  abbrev all_dates : Tables → List (ℕ × Suite) → Tables
  all_dates t ss = fold (λ (now : Tables) (s : ℕ × Suite). if some_touches s.0 steps then with_new_date s.1.codename moment now else now) t ss

  abbrev with_dates : Tables → Numbered Date → Tables
  with_dates u rows = record u { dates = rows }

  dates_only : (ss : List (ℕ × Suite)) (t : Tables) → all_dates t ss ≡ record t { dates = (all_dates t ss).dates }
  dates_only [] t = refl
  dates_only (s ∷ ss) t =
      dates_only ss (if some_touches s.0 steps then with_new_date s.1.codename moment t else t)
      ∙ by_case (some_touches s.0 steps) (all_dates (if some_touches s.0 steps then with_new_date s.1.codename moment t else t) ss).dates
    where
      by_case : (b : Bool) (rows : Numbered Date) → with_dates (if b then with_new_date s.1.codename moment t else t) rows ≡ with_dates t rows
      by_case true rows = refl
      by_case false rows = refl

  others_only : (suites : List Suite) (texts : List IndexText) (t : Tables)
      → with_new_dates suites moment steps (with_new_texts texts t) ≡ with_others t (with_new_texts texts t).texts (with_new_dates suites moment steps (with_new_texts texts t)).dates
  others_only suites texts t =
      dates_only (enumerate_from 0 suites) (with_new_texts texts t)
      ∙ ap (λ (u : Tables). record u { dates = (with_new_dates suites moment steps (with_new_texts texts t)).dates }) (texts_only texts t)

-- what the other rows are does not rest on those of texts and dates
module _ (t : Tables) (texts : Numbered TextRow) (dates : Numbered Date) where
  uploads_stay : (judged : List Judgement) → AreUploads t judged → AreUploads (with_others t texts dates) judged
  unfolding wants_in arrivals_in bytes_of
  uploads_stay judged h = record {
    waiting = h.waiting;
    owned = h.owned;
    unjudged = h.unjudged;
    places = h.places;
    from_one = h.from_one;
    placed_apart = h.placed_apart;
    apart = h.apart;
  }

  items_stay : (suites : List Suite) (shown : ShelvesValue) → AreItems t suites shown → AreItems (with_others t texts dates) suites shown
  items_stay suites shown h = record {
    are = h.are;
    all = h.all;
    within = h.within;
    rows = h.rows;
    apart = h.apart;
    owned = h.owned;
  }

  files_stay : (shown : ShelvesValue) → AreFiles t shown → AreFiles (with_others t texts dates) shown
  unfolding has_body
  files_stay shown h = record { are = h.are; bodies = h.bodies; apart = h.apart }

  keeps_stay : (old : Tables) → KeepsBodies old t → KeepsBodies old (with_others t texts dates)
  keeps_stay old h = record { bodies = h.bodies; pieces = h.pieces; arrivals = h.arrivals }

-- bodies and arrivals are those of tables that have the same rows of them
module _ (t new : Tables) (keeps : KeepsBodies t new) where
  abbrev with_bodies : Tables
  with_bodies = record new { bodies = t.bodies; pieces = t.pieces; arrivals = t.arrivals }

  have_same : with_bodies ≡ new
  have_same = λ i. record new { bodies = sym keeps.bodies i; pieces = sym keeps.pieces i; arrivals = sym keeps.arrivals i }

  bodies_there : AreStored t → AreStored with_bodies
  unfolding bytes_of has_body
  bodies_there h = record {
    whole = h.whole;
    pieces = h.pieces;
    apart = h.apart;
    owned = h.owned;
  }

  arrivals_there : AreArrivals t → AreArrivals with_bodies
  unfolding bytes_of has_body arrivals_in
  arrivals_there h = record { bodies = h.bodies; apart = h.apart; deliverable = h.deliverable }

  pub bodies_stay : AreStored t → AreStored new
  bodies_stay h = subst AreStored have_same (bodies_there h)

  pub arrivals_stay : AreArrivals t → AreArrivals new
  arrivals_stay h = subst AreArrivals have_same (arrivals_there h)

-- The tables after the steps of a change: uploads, items and files are those that the steps leave, the other rows are as
-- they were.
pub record AreStepped (t now : Tables) (config : ConfigValue) (judged : List Judgement) (shown : ShelvesValue) : Type 0 where
  pub meta : now.meta ≡ t.meta
  pub keeps : KeepsBodies t now
  pub texts : now.texts ≡ t.texts
  pub date_rows : now.dates ≡ t.dates
  pub uploads : AreUploads now judged
  pub items : AreItems now config.suites shown
  pub files : AreFiles now shown
  pub sound : AreSound shown
  pub told : AreTold config.suites shown
  pub signed : AreSigned judged

-- What the tables keep once a change is written, except for bodies that nothing uses any more. The book is then the amended one,
-- if it had each body.
pub record IsWritten (t new : Tables) (config : ConfigValue) (judged : List Judgement) (shown : ShelvesValue) (dates : List ℕ) (change : Change) : Type 0 where
  pub unswept : IsUnswept new config (judged ++ judgements change.steps) (shown_past shown change.steps) (dates_past change.moment dates change.steps)
  pub keeps : KeepsBodies t new
  pub book : HasEachBody (book_in config judged shown dates t) change
      → book_in config (judged ++ judgements change.steps) (shown_past shown change.steps) (dates_past change.moment dates change.steps) new
      ≡ amended (book_in config judged shown dates t) change

-- THE ARCHIVE after the steps of a change, once its texts and dates are written.
pub amended_archive : (t now : Tables) (config : ConfigValue) (judged : List Judgement) (shown : ShelvesValue) (dates : List ℕ) (change : Change)
    → IsBook t config judged shown dates → AreStepped t now config (judged ++ judgements change.steps) (shown_past shown change.steps)
    → change.moment ≤ latest → config_in config.text ≡ Ok config
    → AreRenewed (book_in config judged shown dates t) (amended (book_in config judged shown dates t) change) change.texts
    → IsWritten t (with_new_dates config.suites change.moment change.steps (with_new_texts change.texts now)) config judged shown dates change
amended_archive t now config judged shown dates change kept stepped small read renewed =
    let texts : Numbered TextRow = (with_new_texts change.texts now).texts in
    let date_rows : Numbered Date = (with_new_dates config.suites change.moment change.steps (with_new_texts change.texts now)).dates in
    let is : with_others now texts date_rows ≡ with_new_dates config.suites change.moment change.steps (with_new_texts change.texts now) =
    sym (others_only change.moment change.steps config.suites change.texts now) in
    let rows = renewed_rows t now config judged shown dates change kept stepped.texts stepped.date_rows small read renewed in
    let keeps : KeepsBodies t (with_new_dates config.suites change.moment change.steps (with_new_texts change.texts now)) =
    subst (KeepsBodies t) is (keeps_stay now texts date_rows t stepped.keeps) in
    let files : AreFiles (with_new_dates config.suites change.moment change.steps (with_new_texts change.texts now)) (shown_past shown change.steps) =
    subst (λ (u : Tables). AreFiles u (shown_past shown change.steps)) is (files_stay now texts date_rows (shown_past shown change.steps) stepped.files) in
    record {
      unswept = record {
        meta = ap (λ (u : Tables). rows_of u.meta) (sym is) ∙ ap rows_of stepped.meta ∙ kept.meta;
        read = read;
        sound = stepped.sound;
        told = stepped.told;
        signed = stepped.signed;
        stored = bodies_stay t _ keeps (are_stored t kept.bodies);
        arrivals = arrivals_stay t _ keeps kept.arrivals;
        uploads = subst (λ (u : Tables). AreUploads u (judged ++ judgements change.steps)) is (uploads_stay now texts date_rows (judged ++ judgements change.steps) stepped.uploads);
        items = subst (λ (u : Tables). AreItems u config.suites (shown_past shown change.steps)) is (items_stay now texts date_rows config.suites (shown_past shown change.steps) stepped.items);
        files = files;
        texts = rows.texts;
        date_rows = rows.date_rows;
        dated = rows.dated;
        in_range = rows.in_range;
      };
      keeps = keeps;
      book = amended_book t _ config judged shown dates change kept keeps files;
    }
