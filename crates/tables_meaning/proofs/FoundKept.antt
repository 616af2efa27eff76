-- The first rows of an archive are those of one in which nothing is yet.
use Rattle.std.proofs.Common.{◌≡◌, ◌≤◌, ℕ, true, Ok, List, [], ◌∷◌, ◌++◌, map, fold, length, None, option_map, append_assoc, refl, sym, ap, subst, ◌∙◌, arith}
use Rattle.std.proofs.lemmas.List.Sorted.{IsPermutation-refl}
use Rattle.std.specs.FinMap.{empty, entries, get, get-empty, len-empty, len-entries}
use Rattle.std.proofs.lemmas.List.{map-append, append-nil, length-replicate, map-id, nil_from_length}
use Rattle.std.proofs.lemmas.List.Elements.{All-nil, All-replicate}
use Rattle.std.proofs.lemmas.Simd.{map-map}
use Rattle.rules.specs.Configuration.{config_in}
use Rattle.rules.specs.Values.{ConfigValue}
use Rattle.suites.proofs.SharedLemmas.{entries-empty}
use Rattle.suites.proofs.ToldLemmas.{told_empty}
use Rattle.suites.specs.Items.{IsAtHome}
use Rattle.suites.specs.Shelves.{AreSound, pool}
use Rattle.suites.specs.Keys.{key_order, text_order}
use Rattle.suites.specs.Pool.{files_of, pool_of}
use Rattle.suites.specs.declared.item.Item as shelf
use Rattle.suites.specs.declared.key.ShelfKey.{ShelfKey}
use Rattle.indices.specs.Indices.{PathText, all_texts}
use Rattle.book.specs.Book.{latest}
use Rattle.book.specs.Book.{fresh_book}
use Rattle.tables.specs.Rows.{Tables, Numbered, first_number, rows_of, added, next_in, no_rows, with_date, with_meta}
use Rattle.tables.specs.declared.rows.Date.{Date}
use Rattle.tables.specs.declared.rows.TextRow.{TextRow}
use Rattle.tables.specs.declared.rows.Meta.{Meta}
use Rattle.tables.specs.declared.meta.TheConstants.{VERSION}
use Rattle.tables_meaning.specs.Kept.{AreArrivals, AreBodies, AreFiles, AreItems, AreUploads, IsBook, arrivals_in, book_in, files_in}
use Rattle.tables_meaning.specs.Founding.{first_date, first_dates, founded, with_dates, with_first_rows, with_path_text, with_texts}
use Rattle.tables_meaning.proofs.FoundLemmas.{one_date}
use Rattle.sqlite_keyed.proofs.ListLemmas.{IsPermutation-same}

-- ---- rows one after another

rows_added : {X : Type 0} (rows : Numbered X) (x : X) → rows_of (added rows x) ≡ rows_of rows ++ x ∷ []
rows_added rows x = map-append (λ r. r.1) rows ((next_in rows, x) ∷ [])

pub rows_all : {X Y : Type 0} (f : Y → X) (ys : List Y) (rows : Numbered X) → rows_of (fold (λ now y. added now (f y)) rows ys) ≡ rows_of rows ++ map f ys
rows_all f [] rows = sym (append-nil (rows_of rows))
rows_all f (y ∷ ys) rows =
    rows_all f ys (added rows (f y)) ∙ ap (λ xs. xs ++ map f ys) (rows_added rows (f y)) ∙ append_assoc (rows_of rows) (f y ∷ []) (map f ys)

abbrev pub text_row : PathText → TextRow
text_row x = record { path = x.0; body = x.1 }

pub texts_are : (xs : List PathText) (t : Tables) → with_texts xs t ≡ record t { texts = fold (λ now x. added now (text_row x)) t.texts xs }
unfolding with_texts
texts_are [] t = refl
texts_are (x ∷ xs) t = texts_are xs (with_path_text x t)

pub dates_are : (ds : List Date) (t : Tables) → with_dates ds t ≡ record t { dates = fold (λ now d. added now d) t.dates ds }
unfolding with_dates
dates_are [] t = refl
dates_are (d ∷ ds) t = dates_are ds (with_date d t)

-- ---- the first rows

abbrev first_meta : ConfigValue → Meta
first_meta config = record { version = VERSION; configuration = config.text }

abbrev first_texts : ConfigValue → ℕ → List PathText
first_texts config moment = all_texts config empty (first_dates config moment)

abbrev first_texted : ConfigValue → ℕ → Numbered TextRow
first_texted config moment = fold (λ now x. added now (text_row x)) [] (first_texts config moment)

abbrev first_dated : ConfigValue → ℕ → Numbered Date
first_dated config moment = fold (λ now d. added now d) [] (map (first_date moment) config.suites)

abbrev first_rows : Numbered Meta → Numbered TextRow → Numbered Date → Tables
first_rows meta texts dates = record {
  meta = meta;
  bodies = [];
  pieces = [];
  arrivals = [];
  uploads = [];
  wants = [];
  items = [];
  refs = [];
  files = [];
  texts = texts;
  dates = dates;
}

founded_are : (config : ConfigValue) (moment : ℕ) → founded config moment ≡ first_rows ((first_number, first_meta config) ∷ []) (first_texted config moment) (first_dated config moment)
unfolding founded with_first_rows
founded_are config moment =
    dates_are (map (first_date moment) config.suites) (with_texts (first_texts config moment) (with_meta (first_meta config) no_rows))
    ∙ ap (λ (t : Tables). record t { dates = fold (λ now d. added now d) t.dates (map (first_date moment) config.suites) })
    (texts_are (first_texts config moment) (with_meta (first_meta config) no_rows))

-- ---- what is kept

pub same_pairs : (xs : List PathText) → map (λ x. (x.0, x.1)) xs ≡ xs
same_pairs [] = refl
same_pairs (x ∷ xs) = ap (λ ys. x ∷ ys) (same_pairs xs)

shows_none : entries (empty {X = shelf.Item} {R = key_order}) ≡ []
shows_none = nil_from_length (entries (empty {X = shelf.Item} {R = key_order})) (sym (sym (len-empty key_order shelf.Item) ∙ len-entries (empty {X = shelf.Item} {R = key_order})))

no_files : (path : List ℕ) → None ≡ get (pool empty) path
no_files path = sym (ap (λ (es : List (ShelfKey × shelf.Item)). get (pool_of (files_of (map (λ e. e.1) es))) path) shows_none ∙ get-empty text_order path)

module _ (config : ConfigValue) (meta : Numbered Meta) (texts : Numbered TextRow) (dates : Numbered Date) where
  no_bodies : AreBodies (first_rows meta texts dates)
  no_bodies = record { whole = All-nil _; pieces = All-nil _; apart = λ i j d below within. absurd (omega arith); used = All-nil _; owned = All-nil _ }

  no_arrivals : AreArrivals (first_rows meta texts dates)
  unfolding arrivals_in
  no_arrivals = record { bodies = All-nil _; apart = λ i j d below within. absurd (omega arith); deliverable = All-nil _ }

  no_uploads : AreUploads (first_rows meta texts dates) []
  unfolding arrivals_in
  no_uploads = record {
    waiting = IsPermutation-refl [];
    owned = All-nil _;
    unjudged = All-nil _;
    places = λ n. refl;
    from_one = All-nil _;
    placed_apart = λ i j d below within. absurd (omega arith);
    apart = λ i j d below within. absurd (omega arith);
  }

  no_items : AreItems (first_rows meta texts dates) config.suites empty
  no_items = record {
    are = λ key within. refl;
    all = λ key within. ap (λ o. option_map (λ _. true) o) (sym (get-empty key_order key));
    within = λ key item h. absurd (let none : get (empty {X = shelf.Item} {R = key_order}) key ≡ None = get-empty key_order key in cc);
    rows = All-nil _;
    apart = λ i j d below within. absurd (omega arith);
    owned = All-nil _;
  }

  no_pool : AreFiles (first_rows meta texts dates) empty
  no_pool = record { are = no_files; bodies = All-nil _; apart = λ i j d below within. absurd (omega arith) }

-- nothing is shown, so nothing stands elsewhere
nothing_sound : AreSound empty
nothing_sound = record { at_home = rw (entries-empty key_order shelf.Item) (All-nil IsAtHome); agreed = rw (entries-empty key_order shelf.Item) (λ path a b x y. absurd (omega (arith, x.1))) }

first_kept : (config : ConfigValue) (moment : ℕ) → config_in config.text ≡ Ok config → moment ≤ latest
    → IsBook (first_rows ((first_number, first_meta config) ∷ []) (first_texted config moment) (first_dated config moment)) config [] empty (first_dates config moment)
first_kept config moment read early = record {
  meta = refl;
  read = read;
  sound = nothing_sound;
  told = told_empty config.suites;
  signed = All-nil _;
  bodies = no_bodies config ((first_number, first_meta config) ∷ []) (first_texted config moment) (first_dated config moment);
  arrivals = no_arrivals config ((first_number, first_meta config) ∷ []) (first_texted config moment) (first_dated config moment);
  uploads = no_uploads config ((first_number, first_meta config) ∷ []) (first_texted config moment) (first_dated config moment);
  items = no_items config ((first_number, first_meta config) ∷ []) (first_texted config moment) (first_dated config moment);
  files = no_pool config ((first_number, first_meta config) ∷ []) (first_texted config moment) (first_dated config moment);
  texts =
      IsPermutation-same _ _
      (ap (map (λ x. (x.path, x.body))) (rows_all text_row (first_texts config moment) [])
      ∙ map-map (λ x. (x.path, x.body)) text_row (first_texts config moment) ∙ same_pairs (first_texts config moment));
  date_rows =
      IsPermutation-same _ _
      (rows_all (λ d. d) (map (first_date moment) config.suites) [] ∙ map-id (map (first_date moment) config.suites) ∙ one_date moment config.suites);
  dated = length-replicate (length config.suites) moment;
  in_range = All-replicate (λ d. d ≤ latest) (length config.suites) moment early;
}

-- the rows of a new archive are those of one in which nothing is yet
pub founded_is_kept : (config : ConfigValue) (moment : ℕ) → config_in config.text ≡ Ok config → moment ≤ latest → IsBook (founded config moment) config [] empty (first_dates config moment)
founded_is_kept config moment read early = subst (λ t. IsBook t config [] empty (first_dates config moment)) (sym (founded_are config moment)) (first_kept config moment read early)

-- the book of a new archive is one in which nothing is yet
pub founded_book : (config : ConfigValue) (moment : ℕ) → book_in config [] empty (first_dates config moment) (founded config moment) ≡ fresh_book config moment
unfolding book_in fresh_book arrivals_in files_in
founded_book config moment = ap (λ t. book_in config [] empty (first_dates config moment) t) (founded_are config moment)
