-- Rows that are written one after another: under their own numbers, or under the next ones.
use Rattle.std.specs.Prelude.{◌≡◌, ℕ, true, List, fold, IsTrue}
use Rattle.sqlite.specs.State.{State, KeepsCommit}
use Rattle.sqlite_keyed.specs.Keyed.{insert_by}
use Rattle.tables.specs.Rows.{id_int, Tables, Numbered, Holds, with_piece, with_arrival, with_want, with_ref, with_file}
use Rattle.tables.specs.declared.rows.BodyRow.{BodyRow}
use Rattle.tables.specs.declared.rows.Piece.{Piece}
use Rattle.tables.specs.declared.rows.ArrivalRow.{ArrivalRow}
use Rattle.tables.specs.declared.rows.UploadRow.{UploadRow}
use Rattle.tables.specs.declared.rows.Want.{Want}
use Rattle.tables.specs.declared.rows.ItemRow.{ItemRow}
use Rattle.tables.specs.declared.rows.Ref.{Ref}
use Rattle.tables.specs.declared.rows.File.{File}
use Rattle.old_book.specs.Copying.{arrived_at}

-- the rows with this one at its place among rising numbers; it replaces a row of its number
abbrev pub put_at : {X : Type 0} → ℕ × X → Numbered X → Numbered X
put_at x rows = insert_by (λ y. id_int y.0) rows x

-- ---- one more row, with its number

abbrev pub with_body_at : ℕ × BodyRow → Tables → Tables
with_body_at x t = record t { bodies = put_at x t.bodies }

abbrev pub with_upload_at : ℕ × UploadRow → Tables → Tables
with_upload_at x t = record t { uploads = put_at x t.uploads }

abbrev pub with_item_at : ℕ × ItemRow → Tables → Tables
with_item_at x t = record t { items = put_at x t.items }

-- ---- one more row, under the next number in place of its own

abbrev pub with_piece_of : ℕ × Piece → Tables → Tables
with_piece_of x = with_piece x.1

abbrev pub with_arrival_at : ℕ → ℕ × ArrivalRow → Tables → Tables
with_arrival_at moment x = with_arrival (arrived_at moment x.1)

abbrev pub with_want_of : ℕ × Want → Tables → Tables
with_want_of x = with_want x.1

abbrev pub with_ref_of : ℕ × Ref → Tables → Tables
with_ref_of x = with_ref x.1

abbrev pub with_file_of : ℕ × File → Tables → Tables
with_file_of x = with_file x.1

-- ---- rows one after another

-- what each row in its turn makes of the tables
unfoldable pub each : {X : Type 0} → (X → Tables → Tables) → List X → Tables → Tables
each step rows t = fold (λ now x. step x now) t rows

abbrev pub with_arrived : Tables → ℕ → Tables → Tables
with_arrived from moment t = each (with_arrival_at moment) from.arrivals (each with_piece_of from.pieces (each with_body_at from.bodies t))

abbrev pub with_uploaded : Tables → Tables → Tables
with_uploaded from t = each with_want_of from.wants (each with_upload_at from.uploads t)

abbrev pub with_shown : Tables → Tables → Tables
with_shown from t = each with_file_of from.files (each with_ref_of from.refs (each with_item_at from.items t))

-- The transaction goes on: whatever rows the tables held, they hold the changed ones now, and what was committed stays.
pub record Writes (old new : State) (change : Tables → Tables) : Type 0 where
  pub held : (t : Tables) → Holds old.now t → Holds new.now (change t)
  pub kept : KeepsCommit old new
  pub stays : IsTrue old.is_open → IsTrue new.is_open
  pub mode : new.in_transaction ≡ true
