-- How the tables of an archive keep it: which rows follow from what is kept.
use Rattle.std.specs.Prelude.{◌≡◌, ◌≢◌, ◌≤◌, ◌<◌, ℕ, ◌+◌, ◌*◌, ◌/◌, Bool, true, false, not, ◌&&◌, nat_eq, List, [], ◌∷◌, ◌++◌, map, filter, find, take, drop, length, All, Option, Some, None, option_map, slice_get, IsTrue, Ok, IsPermutation}
use Rattle.std.specs.List.{AllPairs, list_any, flat_map, enumerate_from, zip, range_with_len}
use Rattle.std.specs.Option.{option_and_then, option_map_or}
use Rattle.std.specs.FinMap.{get}
use Rattle.std.specs.Ordering.{nat_cmp}
use Rattle.std.specs.Str.{IsUtf8}
use Rattle.std.specs.declared.cmp.Ordering.{Ordering}
use Rattle.sqlite_keyed.specs.Lists.{sort_by as sorted_by}
use Rattle.rules.specs.Configuration.{config_in}
use Rattle.rules.specs.Values.{ConfigValue}
use Rattle.rules.specs.Verdicts.{number_of}
use Rattle.rules.specs.declared.suite.Suite.{Suite}
use Rattle.records.specs.Records.{changes_limit}
use Rattle.sums.specs.FileNames.{is_file_name, is_changes_name}
use Rattle.sums.specs.Prints.{print as print_of}
use Rattle.sums.specs.declared.entries.Entry.{Entry}
use Rattle.sums.specs.declared.print.Print.{Print}
use Rattle.suites.specs.Keys.{kind_number, text_order}
use Rattle.suites.specs.Shelves.{ShelvesValue, AreSound, pool}
use Rattle.suites.specs.Told.{AreTold}
use Rattle.suites.specs.declared.item.Item as shelf
use Rattle.suites.specs.declared.key.ShelfKey.{ShelfKey}
use Rattle.suites.specs.Codenames.{codename_at}
use Rattle.suites.specs.declared.item.PoolFile.{PoolFile}
use Rattle.indices.specs.Indices.{all_texts}
use Rattle.book.specs.Book.{Book, Candidate, candidates, is_judged, is_there, latest}
use Rattle.book.specs.Keeping.{IsDeliverable, sign_of}
use Rattle.book.specs.declared.arrival.Arrival.{Arrival}
use Rattle.book.specs.declared.change.Judgement.{Judgement}
use Rattle.tables.specs.Arrivals.{is_arrival}
use Rattle.tables.specs.Bodies.{is_body_there}
use Rattle.tables.specs.Files.{is_file_at}
use Rattle.tables.specs.Items.{is_item}
use Rattle.tables.specs.Pieces.{is_of}
use Rattle.tables.specs.Real.{IsRealPrint}
use Rattle.tables.specs.Refs.{is_ref_of}
use Rattle.tables.specs.Rows.{Tables, Rises, rows_of, Numbered}
use Rattle.tables.specs.Uploads.{is_judged as has_place}
pub use Rattle.tables.specs.Uploads.{sign_in}
use Rattle.tables.specs.Wants.{is_wanted_by}
use Rattle.tables.specs.declared.rows.ArrivalRow.{ArrivalRow}
use Rattle.tables.specs.declared.rows.Date.{Date}
use Rattle.tables.specs.declared.rows.ItemRow.{ItemRow}
use Rattle.tables.specs.declared.rows.Piece.{Piece}
use Rattle.tables.specs.declared.rows.Ref.{Ref}
use Rattle.tables.specs.declared.rows.UploadRow.{UploadRow}
use Rattle.tables.specs.declared.meta.TheConstants.{VERSION}
use Rattle.tables.specs.declared.rows.BodyRow.{BodyRow}
use Rattle.vers.specs.Syntax.{IsVersion}

-- ---- bodies

-- the order of the pieces of a body: by number
abbrev pub piece_order : Piece → Piece → Ordering
piece_order p q = nat_cmp p.number q.number

-- the pieces of a body among these, in their order
abbrev pub pieces_among : List Piece → ℕ → List Piece
pieces_among pieces id = sorted_by piece_order (filter (is_of id) pieces)

-- the pieces of a body, whatever the order of the rows
abbrev pub pieces_of : Tables → ℕ → List Piece
pieces_of t id = pieces_among (rows_of t.pieces) id

-- the bytes of a body: those of its pieces
unfoldable pub bytes_of : Tables → ℕ → List ℕ
bytes_of t id = flat_map (λ p. p.bytes) (pieces_of t id)

-- the most bytes that a piece has
abbrev pub piece_size : ℕ
piece_size = 65536

abbrev pub piece_count : List ℕ → ℕ
piece_count bytes = (length bytes + 65535) / 65536

-- the piece of these bytes at a place, from 0: as long as a piece may be, and the last of what is left
abbrev pub piece_at : List ℕ → ℕ → List ℕ
piece_at bytes n = take piece_size (drop (piece_size * n) bytes)

-- the pieces of a body of these bytes, numbered from 1
unfoldable pub pieces_for : ℕ → List ℕ → List Piece
pieces_for id bytes = map (λ n. record { body = id; number = n + 1; bytes = piece_at bytes n }) (range_with_len 0 (piece_count bytes))

-- there is a body of this number
unfoldable pub has_body : Tables → ℕ → Bool
has_body t id = is_body_there t id

-- the print of the body of a number among these
abbrev pub print_in : Numbered BodyRow → ℕ → Option Print
print_in bodies id = option_and_then (λ x. x.1.print) (find (λ x. nat_eq x.0 id) bodies)

-- the print of a body
abbrev pub print_at : Tables → ℕ → Option Print
print_at t id = option_and_then (λ x. x.1.print) (find (λ x. nat_eq x.0 id) t.bodies)

-- the numbers of the bodies that arrivals and files of the pool have
abbrev pub used_in : Tables → List ℕ
used_in t = map (λ a. a.body) (rows_of t.arrivals) ++ map (λ f. f.body) (rows_of t.files)

-- the body of this number has arrived under some name, or is that of a file
unfoldable pub is_used : Tables → ℕ → Bool
is_used t id = list_any (λ n. nat_eq n id) (used_in t)

-- Each body is whole, in pieces, and its print is that of its bytes; no two have one print; and a piece is one of a body.
pub record AreStored (t : Tables) : Type 0 where
  pub whole : All (λ x. x.1.print ≡ Some (print_of (bytes_of t x.0))) t.bodies
  pub pieces : All (λ x. pieces_of t x.0 ≡ pieces_for x.0 (bytes_of t x.0)) t.bodies
  pub apart : AllPairs (λ x y. x.1.print ≢ y.1.print) t.bodies
  pub owned : All (λ p. IsTrue (has_body t p.body)) (rows_of t.pieces)

-- Each body is stored whole, as `AreStored` says, and each is used.
pub record AreBodies (t : Tables) : Type 0 where
  pub whole : All (λ x. x.1.print ≡ Some (print_of (bytes_of t x.0))) t.bodies
  pub pieces : All (λ x. pieces_of t x.0 ≡ pieces_for x.0 (bytes_of t x.0)) t.bodies
  pub apart : AllPairs (λ x y. x.1.print ≢ y.1.print) t.bodies
  pub used : All (λ x. IsTrue (is_used t x.0)) t.bodies
  pub owned : All (λ p. IsTrue (has_body t p.body)) (rows_of t.pieces)

-- ---- arrivals

abbrev pub arrival_in : Tables → ArrivalRow → Arrival
arrival_in t a = record { name = a.name; body = bytes_of t a.body; moment = a.moment }

-- what has arrived
unfoldable pub arrivals_in : Tables → List Arrival
arrivals_in t = map (arrival_in t) (rows_of t.arrivals)

-- Each arrival is one that may be kept, with a body that is there, and each pair of name and body is there once.
pub record AreArrivals (t : Tables) : Type 0 where
  pub bodies : All (λ a. IsTrue (has_body t a.body)) (rows_of t.arrivals)
  pub apart : AllPairs (λ a b. is_arrival a.name a.body b ≡ false) (rows_of t.arrivals)
  pub deliverable : All (λ a. IsDeliverable a.name a.body × (a.moment ≤ latest)) (arrivals_in t)

-- ---- uploads and what they want

-- the order of the files that a .changes lists: by name
abbrev pub entry_order : Entry → Entry → Ordering
entry_order d e = text_order d.name e.name

-- the order of what an upload wants: by name
abbrev pub want_order : List ℕ × Print × Bool → List ℕ × Print × Bool → Ordering
want_order v w = text_order v.0 w.0

-- the entries of an upload by name, each with whether it is there, whatever the order of the rows
unfoldable pub wants_in : Tables → ℕ → List (List ℕ × Print × Bool)
wants_in t id = sorted_by want_order (map (λ w. (w.name, w.print, w.here)) (filter (is_wanted_by id) (rows_of t.wants)))

-- an entry as it is wanted
abbrev pub wanted : List Arrival → Entry → List ℕ × Print × Bool
wanted arrivals e = (e.name, e.print, is_there arrivals e)

-- an upload's name and print, and its entries by name, each with whether it is there
abbrev pub Request : Type 0
Request = (List ℕ × Print) × List (List ℕ × Print × Bool)

-- an upload that is not judged, and what it wants
abbrev pub request_in : Tables → ℕ × UploadRow → Request
request_in t x = (sign_in x.1, wants_in t x.0)

abbrev pub request_of : List Arrival → Candidate → Request
request_of arrivals c = (sign_of c, sorted_by want_order (map (wanted arrivals) c.changes.entries))

-- the row of a judged upload, at its place in the order of judging, from 1
abbrev pub judged_row : ℕ → Judgement → UploadRow
judged_row place j = record { name = j.name; print = j.print; place = Some place; verdict = Some (number_of j.verdict) }

-- the upload stands at this place in the order of judging
abbrev pub is_placed : ℕ → UploadRow → Bool
is_placed place u = option_map_or (λ p. nat_eq p place) u.place false

-- The name is that of a .changes and may be delivered, and the print is one that a .changes may have.
pub record IsSigned (name : List ℕ) (print : Print) : Type 0 where
  pub named : is_changes_name name ≡ true
  pub file_name : is_file_name name ≡ true
  pub small : print.size ≤ changes_limit
  pub digests : IsRealPrint print

-- judged uploads that may have been delivered
abbrev pub AreSigned : List Judgement → Type 0
AreSigned judged = All (λ j. IsSigned j.name j.print) judged

-- The uploads without a verdict are the .changes that arrived and are not judged, in some order, each with the entries
-- that it lists. The others are the judged ones, at places from 1 on. No two uploads have the same name and print.
pub record AreUploads (t : Tables) (judged : List Judgement) : Type 0 where
  pub waiting : IsPermutation (map (request_in t) (filter (λ x. not (has_place x.1)) t.uploads))
      (map (request_of (arrivals_in t)) (filter (λ c. not (is_judged judged c)) (candidates (arrivals_in t))))
  pub owned : All (λ w. IsTrue (list_any (λ x. nat_eq x.0 w.upload && not (has_place x.1)) t.uploads)) (rows_of t.wants)
  pub unjudged : All (λ u. u.place ≡ None → u.verdict ≡ None) (rows_of t.uploads)
  pub places : (n : ℕ) → find (is_placed (n + 1)) (rows_of t.uploads) ≡ option_map (judged_row (n + 1)) (slice_get judged n)
  pub from_one : All (λ u. u.place ≢ Some 0) (rows_of t.uploads)
  pub placed_apart : AllPairs (λ u v. IsTrue (has_place u) → u.place ≢ v.place) (rows_of t.uploads)
  pub apart : AllPairs (λ u v. sign_in u ≢ sign_in v) (rows_of t.uploads)

-- ---- items and their files

-- the row of what stands on a shelf
abbrev pub item_row : List Suite → ShelfKey × shelf.Item → ItemRow
item_row suites e = record {
  suite = codename_at suites e.0.suite;
  kind = kind_number e.0.kind;
  «package» = e.0.«package»;
  architecture = e.0.architecture;
  version = e.1.version;
  component = e.1.component;
  source = e.1.source;
  paragraph = e.1.paragraph;
}

-- the row of a file of this number
abbrev pub ref_for : ℕ → ℕ × PoolFile → Ref
ref_for id f = record { item = id; number = f.0; path = f.1.path; print = f.1.print }

-- the rows of its files, numbered from 1
unfoldable pub refs_for : ℕ → shelf.Item → List Ref
refs_for id item = map (ref_for id) (enumerate_from 1 item.files)

-- the order of the files of an item: by number
abbrev pub ref_order : Ref → Ref → Ordering
ref_order r s = nat_cmp r.number s.number

-- the files of an item among these, in their order
abbrev pub refs_among : List Ref → ℕ → List Ref
refs_among refs id = sorted_by ref_order (filter (is_ref_of id) refs)

-- the files of an item, whatever the order of the rows
abbrev pub refs_in : Tables → ℕ → List Ref
refs_in t id = refs_among (rows_of t.refs) id

-- the row is that of this shelf
abbrev pub is_on : List Suite → ShelfKey → ℕ × ItemRow → Bool
is_on suites key x = is_item (codename_at suites key.suite) (kind_number key.kind) key.«package» key.architecture x.1

-- a row and the rows of its files
abbrev pub shown_in : Tables → ℕ × ItemRow → ItemRow × List Ref
shown_in t x = (x.1, refs_in t x.0)

-- the rows of a shelf, under this number
abbrev pub shown_row : List Suite → ShelfKey → ℕ → shelf.Item → ItemRow × List Ref
shown_row suites key id item = (item_row suites (key, item), refs_for id item)

-- Each shelf of a suite of the configuration has its row, with the rows of its files. There are no other rows, and no
-- row is there twice.
pub record AreItems (t : Tables) (suites : List Suite) (shown : ShelvesValue) : Type 0 where
  pub are : (key : ShelfKey) → key.suite < length suites → option_map (shown_in t) (find (is_on suites key) t.items)
      ≡ option_and_then (λ x. option_map (shown_row suites key x.0) (get shown key)) (find (is_on suites key) t.items)
  pub all : (key : ShelfKey) → key.suite < length suites → option_map (λ _. true) (find (is_on suites key) t.items) ≡ option_map (λ _. true) (get shown key)
  pub within : (key : ShelfKey) (item : shelf.Item) → get shown key ≡ Some item → key.suite < length suites
  pub rows : All (λ x. ∥ ((key : ShelfKey) × (key.suite < length suites) × IsTrue (is_on suites key x)) ∥₁) t.items
  pub apart : AllPairs (λ x y. is_item x.suite x.kind x.«package» x.architecture y ≡ false) (rows_of t.items)
  pub owned : All (λ r. IsTrue (list_any (λ x. nat_eq x.0 r.item) t.items)) (rows_of t.refs)

-- A row that may be that of an item: its version is valid (Debian Policy 5.6.12), and its paragraph is text.
pub record IsReadable (x : ItemRow) : Type 0 where
  pub version : IsVersion x.version
  pub paragraph : IsUtf8 x.paragraph

abbrev pub AreReadable : Tables → Type 0
AreReadable t = All IsReadable (rows_of t.items)

-- ---- files of the pool

-- the bytes of the file at a path
unfoldable pub files_in : Tables → List ℕ → Option (List ℕ)
files_in t path = option_map (λ f. bytes_of t f.body) (find (is_file_at path) (rows_of t.files))

-- The files are exactly those of the pool, with their prints, each path once.
pub record AreFiles (t : Tables) (shown : ShelvesValue) : Type 0 where
  pub are : (path : List ℕ) → option_and_then (λ f. print_at t f.body) (find (is_file_at path) (rows_of t.files)) ≡ get (pool shown) path
  pub bodies : All (λ f. IsTrue (has_body t f.body)) (rows_of t.files)
  pub apart : AllPairs (λ f g. f.path ≢ g.path) (rows_of t.files)

-- ---- the archive

-- the row of a suite's date
abbrev pub date_row : Suite × ℕ → Date
date_row d = record { suite = d.0.codename; moment = d.1 }

-- The rows are those of an archive of this configuration, with these judged uploads in order, these items shown, and these
-- dates. The rows of texts, dates, pieces, references, waiting uploads and wants may be in any order. The configuration is
-- what its text spells. Each item stands on its own shelf and is as its records say. The judged uploads may have been
-- delivered.
pub record IsBook (t : Tables) (config : ConfigValue) (judged : List Judgement) (shown : ShelvesValue) (dates : List ℕ) : Type 0 where
  pub meta : rows_of t.meta ≡ record { version = VERSION; configuration = config.text } ∷ []
  pub read : config_in config.text ≡ Ok config
  pub sound : AreSound shown
  pub told : AreTold config.suites shown
  pub signed : AreSigned judged
  pub bodies : AreBodies t
  pub arrivals : AreArrivals t
  pub uploads : AreUploads t judged
  pub items : AreItems t config.suites shown
  pub files : AreFiles t shown
  pub texts : IsPermutation (map (λ x. (x.path, x.body)) (rows_of t.texts)) (all_texts config shown dates)
  pub date_rows : IsPermutation (rows_of t.dates) (map date_row (zip config.suites dates))
  pub dated : length dates ≡ length config.suites
  pub in_range : All (λ d. d ≤ latest) dates

-- the book that the tables keep, with what is held beside them
unfoldable pub book_in : ConfigValue → List Judgement → ShelvesValue → List ℕ → Tables → Book
book_in config judged shown dates t = record {
  config = config;
  arrivals = arrivals_in t;
  judged = judged;
  shown = shown;
  files = files_in t;
  dates = dates;
}

-- the rowids of the tables that others refer to rise
pub record AreNumbered (t : Tables) : Type 0 where
  pub bodies : Rises t.bodies
  pub arrivals : Rises t.arrivals
  pub uploads : Rises t.uploads
  pub items : Rises t.items
