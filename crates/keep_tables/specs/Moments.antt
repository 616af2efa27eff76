-- What the reads of a keeper find at a moment, row by row.
use Rattle.std.specs.Prelude.{ℕ, nat_eq, not, if◌then◌else◌, List, filter, length, Option, None, Some}
use Rattle.std.specs.List.{filter_map}
use Rattle.std.specs.declared.cmp.Ordering.{Ordering}
use Rattle.suites.specs.Keys.{text_order}
use Rattle.suites.specs.Upload.{UploadValue}
use Rattle.book.specs.declared.change.Lack.{Lack}
use Rattle.book.specs.declared.change.Waiting.{Waiting}
use Rattle.tables.specs.Rows.{Numbered, Tables, rows_of}
use Rattle.tables.specs.Wants.{is_wanted_by}
use Rattle.tables.specs.declared.rows.UploadRow.{UploadRow}
use Rattle.tables.specs.declared.rows.Want.{Want}
use Rattle.tables_counting.specs.Moments.{is_had, still_counts}
use Rattle.tables_meaning.specs.Reads.{row_order, sorted_by, upload_in, wanting}

-- the upload, if it still counts
abbrev pub row_at : Option ℕ → ℕ → Tables → ℕ × UploadRow → Option (ℕ × UploadRow)
row_at span moment t x = if still_counts span moment t x.1.name x.1.print then Some x else None

-- the uploads that want something and still count, in the order of judging
unfoldable pub rows_at : Option ℕ → ℕ → Tables → Numbered UploadRow
rows_at span moment t = sorted_by row_order (filter_map (row_at span moment t) (wanting t))

-- how many entries of an upload have not arrived, or no longer count
unfoldable pub missing_at : Option ℕ → ℕ → Tables → ℕ → ℕ
missing_at span moment t id = length (filter (λ w. not (is_had span moment t w)) (filter (is_wanted_by id) (rows_of t.wants)))

-- the order of entries: by name
abbrev pub name_order : Want → Want → Ordering
name_order v w = text_order v.name w.name

-- the entries of an upload, in the order of names
unfoldable pub wants_by_name : Tables → ℕ → List Want
wants_by_name t id = sorted_by name_order (filter (is_wanted_by id) (rows_of t.wants))

-- what is said of an entry that has not arrived or no longer counts: it is ended if it arrived
abbrev pub lack_at : Option ℕ → ℕ → Tables → Want → Option Lack
lack_at span moment t w = if is_had span moment t w then None else Some (record { name = w.name; print = w.print; is_ended = w.here })

-- what is lacking of an upload, in the order of names
unfoldable pub lacks_at : Option ℕ → ℕ → Tables → ℕ → List Lack
lacks_at span moment t id = filter_map (lack_at span moment t) (wants_by_name t id)

-- an upload that is not judged, with what it lacks
abbrev pub waiting_at : Option ℕ → ℕ → Tables → ℕ × UploadRow → Waiting
waiting_at span moment t x = record { name = x.1.name; print = x.1.print; lacks = lacks_at span moment t x.0 }

-- the upload as it is judged, if all its entries have arrived and still count
abbrev pub due_at : Option ℕ → ℕ → Tables → ℕ × UploadRow → Option UploadValue
due_at span moment t x = if nat_eq (missing_at span moment t x.0) 0 then upload_in t x.1 else None
