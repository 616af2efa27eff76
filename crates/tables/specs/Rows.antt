-- What the tables of an archive hold, row by row.
use Rattle.std.specs.Prelude.{◌≡◌, ◌⊎◌, true, not, ◌==◌, ℕ, ℤ, ◌+◌, ◌<◌, pos, unsigned_abs, ◌+ℤ◌, ◌-ℤ◌, Bool, if◌then◌else◌, List, [], ◌∷◌, ◌++◌, map, fold, Option, Some, None, IsTrue}
use Rattle.sqlite.specs.declared.types.Value.TheVariants.{Null, Int, Text, Blob}
use Rattle.sqlite.specs.declared.types.Value.{Value}
use Rattle.sqlite.specs.Order.{Row, column, bytes}
use Rattle.sqlite.specs.Values.{or_null}
use Rattle.sqlite.specs.Tree.{Trees, IsAscending}
use Rattle.sqlite.specs.Effect.{Database}
use Rattle.sqlite.specs.State.{State, Shows, IsRolledBack}
use Rattle.sqlite_keyed.specs.Lists.{update_where, delete_where}
use Rattle.sums.specs.declared.print.Print.{Print}
use Rattle.tables.specs.declared.rows.Meta.{Meta}
use Rattle.tables.specs.declared.rows.BodyRow.{BodyRow}
use Rattle.tables.specs.declared.rows.Piece.{Piece}
use Rattle.tables.specs.declared.rows.ArrivalRow.{ArrivalRow}
use Rattle.tables.specs.declared.rows.UploadRow.{UploadRow}
use Rattle.tables.specs.declared.rows.Want.{Want}
use Rattle.tables.specs.declared.rows.ItemRow.{ItemRow}
use Rattle.tables.specs.declared.rows.Ref.{Ref}
use Rattle.tables.specs.declared.rows.File.{File}
use Rattle.tables.specs.declared.rows.TextRow.{TextRow}
use Rattle.tables.specs.declared.rows.Date.{Date}
use Rattle.tables.specs.Others.{IsArchiveSchema}

-- ---- rows as a table stores them

-- A whole number, and one that may be absent.
abbrev pub whole : ℕ → Value
whole n = Int (pos n)

-- The integer of an id: SQLite's integers as numbers from 0 on, so that their order is that of the numbers.
abbrev pub id_int : ℕ → ℤ
id_int n = pos n -ℤ pos 9223372036854775808

-- an id, a rowid or a reference to one
abbrev pub id_cell : ℕ → Value
id_cell n = Int (id_int n)

abbrev pub flag : Bool → Value
flag b = Int (if b then pos 1 else pos 0)

abbrev pub print_cells : Print → Row
print_cells p = whole p.size ∷ Blob p.md5 ∷ Blob p.sha1 ∷ Blob p.sha256 ∷ []

-- Each table's columns in their order. An INTEGER PRIMARY KEY is stored as NULL, beside the rowid.
abbrev pub meta_cells : Meta → Row
meta_cells m = whole m.version ∷ Blob m.configuration ∷ []

abbrev pub body_cells : BodyRow → Row
body_cells b = Null ∷ or_null (λ p. whole p.size) b.print ∷ or_null (λ p. Blob p.md5) b.print ∷ or_null (λ p. Blob p.sha1) b.print ∷ or_null (λ p. Blob p.sha256) b.print ∷ []

abbrev pub piece_cells : Piece → Row
piece_cells p = id_cell p.body ∷ whole p.number ∷ Blob p.bytes ∷ []

abbrev pub arrival_cells : ArrivalRow → Row
arrival_cells a = Null ∷ Text a.name ∷ id_cell a.body ∷ whole a.moment ∷ []

abbrev pub upload_cells : UploadRow → Row
upload_cells u = Null ∷ Text u.name ∷ (print_cells u.print ++ or_null whole u.place ∷ or_null whole u.verdict ∷ [])

abbrev pub want_cells : Want → Row
want_cells w = id_cell w.upload ∷ Text w.name ∷ (print_cells w.print ++ flag w.here ∷ [])

abbrev pub item_cells : ItemRow → Row
item_cells i = Null ∷ Text i.suite ∷ whole i.kind ∷ Text i.«package» ∷ Text i.architecture ∷ Text i.version ∷ Text i.component ∷ Text i.source ∷ Blob i.paragraph ∷ []

abbrev pub ref_cells : Ref → Row
ref_cells r = id_cell r.item ∷ whole r.number ∷ Text r.path ∷ print_cells r.print

abbrev pub file_cells : File → Row
file_cells f = Text f.path ∷ id_cell f.body ∷ []

abbrev pub text_cells : TextRow → Row
text_cells t = Text t.path ∷ Blob t.body ∷ []

abbrev pub date_cells : Date → Row
date_cells d = Text d.suite ∷ whole d.moment ∷ []

-- ---- tables as lists

-- rows of a table with their rowids, in the order of these
abbrev pub Numbered : Type 0 → Type 0
Numbered X = List (ℕ × X)

-- a row as a table stores it: its rowid, and then its columns
abbrev pub stored : {X : Type 0} → (X → Row) → ℕ × X → Row
stored cells x = id_cell x.0 ∷ cells x.1

-- the rows without their rowids
abbrev pub rows_of : {X : Type 0} → Numbered X → List X
rows_of = map (λ x. x.1)

-- the rowids rise
abbrev pub Rises : {X : Type 0} → Numbered X → Type 0
Rises = IsAscending (λ a b. a.0 < b.0)

-- the number of the rowid 1, which the first row of a table gets
abbrev pub first_number : ℕ
first_number = 9223372036854775809

-- the number that the next row gets: the last number and one, or the first number if there is no row
abbrev pub next_from : {X : Type 0} → ℕ → Numbered X → ℕ
next_from = fold (λ _ r. r.0 + 1)

abbrev pub next_in : {X : Type 0} → Numbered X → ℕ
next_in = next_from first_number

abbrev pub added : {X : Type 0} → Numbered X → X → Numbered X
added rows x = rows ++ (next_in rows, x) ∷ []

-- the rows that pass a test are changed, or taken out
abbrev pub changed : {X : Type 0} → (ℕ × X → Bool) → (X → X) → Numbered X → Numbered X
changed p f = update_where p (λ x. (x.0, f x.1))

abbrev pub without : {X : Type 0} → (ℕ × X → Bool) → Numbered X → Numbered X
without p = delete_where p

-- the table has exactly these rows
pub record HasRows {X : Type 0} (cells : X → Row) (rows : Numbered X) (tree : List Row) : Type 0 where
  pub are : tree ≡ map (stored cells) rows
  pub rise : Rises rows

-- the tables as lists of typed rows
pub record Tables : Type 0 where
  pub meta : Numbered Meta
  pub bodies : Numbered BodyRow
  pub pieces : Numbered Piece
  pub arrivals : Numbered ArrivalRow
  pub uploads : Numbered UploadRow
  pub wants : Numbered Want
  pub items : Numbered ItemRow
  pub refs : Numbered Ref
  pub files : Numbered File
  pub texts : Numbered TextRow
  pub dates : Numbered Date

abbrev pub no_rows : Tables
no_rows = record { meta = []; bodies = []; pieces = []; arrivals = []; uploads = []; wants = []; items = []; refs = []; files = []; texts = []; dates = [] }

-- the row of a body, and that of an upload, with NULL in each column that it lacks
abbrev pub full_body : Row → Row
full_body r = column r 0 ∷ column r 1 ∷ column r 2 ∷ column r 3 ∷ column r 4 ∷ column r 5 ∷ []

abbrev pub full_upload : Row → Row
full_upload r =
    column r 0 ∷ column r 1 ∷ column r 2 ∷ column r 3 ∷ column r 4 ∷ column r 5 ∷ column r 6 ∷ column r 7 ∷ column r 8 ∷ []

-- the trees hold exactly these rows; the trees between are those of indexes
pub record HoldsRows (trees : Trees) (t : Tables) : Type 0 where
  pub meta : HasRows meta_cells t.meta (trees 0)
  -- The last columns of a body and of an upload may be NULL, so a row may end before them: no statement can distinguish such
  -- a row from one that holds NULL there. The other tables' last columns are never NULL in an archive.
  pub bodies : HasRows body_cells t.bodies (map full_body (trees 1))
  pub pieces : HasRows piece_cells t.pieces (trees 3)
  pub arrivals : HasRows arrival_cells t.arrivals (trees 5)
  pub uploads : HasRows upload_cells t.uploads (map full_upload (trees 7))
  pub wants : HasRows want_cells t.wants (trees 10)
  pub items : HasRows item_cells t.items (trees 13)
  pub refs : HasRows ref_cells t.refs (trees 15)
  pub files : HasRows file_cells t.files (trees 17)
  pub texts : HasRows text_cells t.texts (trees 19)
  pub dates : HasRows date_cells t.dates (trees 21)

-- the database is not that of an archive
abbrev pub IsForeign : Database → Type 0
IsForeign db = ¬ IsArchiveSchema db.schema

-- the database is that of an archive, and its tables hold exactly these rows
pub record Holds (db : Database) (t : Tables) : Type 0 where
  pub schema : IsArchiveSchema db.schema
  pub rows : HoldsRows db.trees t

-- ---- the tables as a function of the database

abbrev pub nat_of : Value → ℕ
nat_of (Int (pos n)) = n
nat_of _ = 0

-- the number of an id
abbrev pub id_nat : ℤ → ℕ
id_nat z = unsigned_abs (z +ℤ pos 9223372036854775808)

abbrev pub id_of : Value → ℕ
id_of (Int z) = id_nat z
id_of _ = 0

abbrev pub some_nat : Value → Option ℕ
some_nat (Int (pos n)) = Some n
some_nat _ = None

abbrev pub print_at : Row → ℕ → Print
print_at row at = record { size = nat_of (column row at); md5 = bytes (column row (at + 1)); sha1 = bytes (column row (at + 2)); sha256 = bytes (column row (at + 3)) }

-- the print, unless its first column is NULL
abbrev pub some_print : Row → ℕ → Option ℕ → Option Print
some_print row at None = None
some_print row at (Some n) = Some (print_at row at)

abbrev pub row_of : {X : Type 0} → (Row → X) → Row → ℕ × X
row_of read row = (id_of (column row 0), read row)

abbrev pub meta_of : Row → Meta
meta_of row = record { version = nat_of (column row 1); configuration = bytes (column row 2) }

abbrev pub body_of : Row → BodyRow
body_of row = record { print = some_print row 2 (some_nat (column row 2)) }

abbrev pub piece_of : Row → Piece
piece_of row = record { body = id_of (column row 1); number = nat_of (column row 2); bytes = bytes (column row 3) }

abbrev pub arrival_of : Row → ArrivalRow
arrival_of row = record { name = bytes (column row 2); body = id_of (column row 3); moment = nat_of (column row 4) }

abbrev pub upload_of : Row → UploadRow
upload_of row = record { name = bytes (column row 2); print = print_at row 3; place = some_nat (column row 7); verdict = some_nat (column row 8) }

abbrev pub want_of : Row → Want
want_of row = record { upload = id_of (column row 1); name = bytes (column row 2); print = print_at row 3; here = not (nat_of (column row 7) == 0) }

abbrev pub item_of : Row → ItemRow
item_of row = record {
  suite = bytes (column row 2);
  kind = nat_of (column row 3);
  «package» = bytes (column row 4);
  architecture = bytes (column row 5);
  version = bytes (column row 6);
  component = bytes (column row 7);
  source = bytes (column row 8);
  paragraph = bytes (column row 9);
}

abbrev pub ref_of : Row → Ref
ref_of row = record { item = id_of (column row 1); number = nat_of (column row 2); path = bytes (column row 3); print = print_at row 4 }

abbrev pub file_of : Row → File
file_of row = record { path = bytes (column row 1); body = id_of (column row 2) }

abbrev pub text_of : Row → TextRow
text_of row = record { path = bytes (column row 1); body = bytes (column row 2) }

abbrev pub date_of : Row → Date
date_of row = record { suite = bytes (column row 1); moment = nat_of (column row 2) }

-- what the trees of an archive hold; if they are not those of an archive, nothing of use
abbrev pub tables_of : Trees → Tables
tables_of trees = record {
  meta = map (row_of meta_of) (trees 0);
  bodies = map (row_of body_of) (trees 1);
  pieces = map (row_of piece_of) (trees 3);
  arrivals = map (row_of arrival_of) (trees 5);
  uploads = map (row_of upload_of) (trees 7);
  wants = map (row_of want_of) (trees 10);
  items = map (row_of item_of) (trees 13);
  refs = map (row_of ref_of) (trees 15);
  files = map (row_of file_of) (trees 17);
  texts = map (row_of text_of) (trees 19);
  dates = map (row_of date_of) (trees 21);
}

abbrev pub tables_in : Database → Tables
tables_in db = tables_of db.trees

-- the database is that of an archive
abbrev pub IsArchive : Database → Type 0
IsArchive db = Holds db (tables_in db)

-- ---- what a statement does inside a transaction

module _ (old new : State) where
  -- Whatever rows the tables held, they hold the changed ones now, and what was committed stays.
  pub record Changes (change : Tables → Tables) : Type 0 where
    pub held : (t : Tables) → Holds old.now t → Holds new.now (change t)
    pub shown : Shows old new new.now old.committed true

  -- the transaction is as it was
  pub record Stands : Type 0 where
    pub was_open : IsTrue new.is_open → IsTrue old.is_open
    pub now_is : new.now ≡ old.now
    pub committed_is : new.committed ≡ old.committed
    pub mode : new.in_transaction ≡ old.in_transaction

  -- after an error the transaction is as it was, or is undone
  abbrev pub Fails : Type 0
  Fails = Stands ⊎ IsRolledBack old new

-- ---- one more row in each table

abbrev pub with_meta : Meta → Tables → Tables
with_meta x t = record t { meta = added t.meta x }

abbrev pub with_body : BodyRow → Tables → Tables
with_body x t = record t { bodies = added t.bodies x }

abbrev pub with_piece : Piece → Tables → Tables
with_piece x t = record t { pieces = added t.pieces x }

abbrev pub with_arrival : ArrivalRow → Tables → Tables
with_arrival x t = record t { arrivals = added t.arrivals x }

abbrev pub with_upload : UploadRow → Tables → Tables
with_upload x t = record t { uploads = added t.uploads x }

abbrev pub with_want : Want → Tables → Tables
with_want x t = record t { wants = added t.wants x }

abbrev pub with_item : ItemRow → Tables → Tables
with_item x t = record t { items = added t.items x }

abbrev pub with_ref : Ref → Tables → Tables
with_ref x t = record t { refs = added t.refs x }

abbrev pub with_file : File → Tables → Tables
with_file x t = record t { files = added t.files x }

abbrev pub with_text : TextRow → Tables → Tables
with_text x t = record t { texts = added t.texts x }

abbrev pub with_date : Date → Tables → Tables
with_date x t = record t { dates = added t.dates x }
