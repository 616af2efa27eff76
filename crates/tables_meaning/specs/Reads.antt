-- The words of the reads: the uploads that want something, in the order of judging, and those that are due.
use Rattle.std.specs.Prelude.{IsTrue, ℕ, Bool, nat_eq, not, if◌then◌else◌, List, [], map, filter, find, length, Option, None, option_map, unwrap_or}
use Rattle.std.specs.List.{list_any}
use Rattle.std.specs.Option.{option_and_then}
use Rattle.std.specs.Result.{result_ok}
use Rattle.std.specs.declared.cmp.Ordering.{Ordering}
use Rattle.records.specs.Records.{changes_in}
use Rattle.records.specs.Values.{ChangesValue}
use Rattle.sqlite.specs.State.{State, IsUnchanged}
use Rattle.sums.specs.declared.entries.Entry.{Entry}
use Rattle.sums.specs.declared.print.Print.{Print}
use Rattle.suites.specs.Upload.{UploadValue, has_text}
use Rattle.book.specs.Book.{is_arrival_of, judging_order}
use Rattle.book.specs.declared.arrival.Arrival.{Arrival}
use Rattle.book.specs.declared.change.Lack.{Lack}
use Rattle.book.specs.declared.change.Waiting.{Waiting}
use Rattle.tables.specs.Bodies.{body_with}
use Rattle.tables.specs.Rows.{Tables, Numbered, Stands, rows_of}
use Rattle.tables.specs.Wants.{is_wanted_by, wants_behind}
use Rattle.tables.specs.declared.rows.UploadRow.{UploadRow}
use Rattle.tables_meaning.specs.Kept.{bytes_of, sign_in, wants_in}
-- ---- the order of judging

-- `put_by` puts one more in its place, before those that tie with it, and `sorted_by` one after the other.
pub use Rattle.sqlite_keyed.specs.Lists.{insert_sorted as put_by, sort_by as sorted_by}

-- the order of two uploads with their numbers
abbrev pub row_order : ℕ × UploadRow → ℕ × UploadRow → Ordering
row_order x y = judging_order (sign_in x.1) (sign_in y.1)

-- the uploads that want something
unfoldable pub wanting : Tables → Numbered UploadRow
wanting t = filter (λ x. list_any (is_wanted_by x.0) (rows_of t.wants)) t.uploads

-- the uploads that want something, in the order of judging
unfoldable pub wanting_rows : Tables → Numbered UploadRow
wanting_rows t = sorted_by row_order (wanting t)

-- the first upload after a number that wants something, or the first of all
unfoldable pub next_wanting_in : Tables → Option ℕ → Option (ℕ × UploadRow)
next_wanting_in t after = find (λ x. wants_behind after (rows_of t.wants) x.0) t.uploads

-- ---- what uploads wait for

-- how many entries of an upload have not arrived
unfoldable pub missing_in : Tables → ℕ → ℕ
missing_in t id = length (filter (λ w. not w.here) (filter (is_wanted_by id) (rows_of t.wants)))

-- what is said of an entry of which no arrival counts: it is ended if it is among all arrivals
abbrev pub lack_from : List Arrival → List ℕ × Print × Bool → Lack
lack_from all w = record { name = w.0; print = w.1; is_ended = list_any (is_arrival_of w.0 w.1) all }

-- what is lacking of an upload, in the order of names: its entries that are not here
unfoldable pub lacks_in : List Arrival → Tables → ℕ → List Lack
lacks_in all t id = map (lack_from all) (filter (λ w. not w.2) (wants_in t id))

-- an upload that is not judged, with what it lacks
abbrev pub waiting_in : List Arrival → Tables → ℕ × UploadRow → Waiting
waiting_in all t x = record { name = x.1.name; print = x.1.print; lacks = lacks_in all t x.0 }

-- ---- the uploads that are due

-- the bytes of the body with a print
unfoldable pub bytes_with : Tables → Print → Option (List ℕ)
bytes_with t print = option_map (bytes_of t) (body_with print t.bodies)

-- the text that an upload keeps of a listed file
unfoldable pub text_in : Tables → Entry → List ℕ
text_in t e = if has_text e.name then unwrap_or (bytes_with t e.print) [] else []

abbrev pub upload_with : Tables → UploadRow → ChangesValue → UploadValue
upload_with t u c = record { name = u.name; print = u.print; changes = c; texts = map (text_in t) c.entries }

-- the upload as it is judged, if its body is there and is a record
unfoldable pub upload_in : Tables → UploadRow → Option UploadValue
upload_in t u = option_and_then (λ body. option_map (upload_with t u) (result_ok (changes_in body))) (bytes_with t u.print)

-- the upload as it is judged, if its body is there and is a record and each of its entries has arrived
abbrev pub due_in : Tables → ℕ × UploadRow → Option UploadValue
due_in t x = if nat_eq (missing_in t x.0) 0 then upload_in t x.1 else None

-- ---- a read that may have nothing to read

-- the connection is as it was, whether it is open or not
pub record Rests (old new : State) : Type 0 where
  pub stands : Stands old new
  pub unchanged : IsTrue old.is_open → IsUnchanged old new
