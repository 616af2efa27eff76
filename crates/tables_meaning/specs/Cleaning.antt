-- What counts at a moment, as the rows say it, and what a cleaning makes of them.
use Rattle.std.specs.Prelude.{ℕ, nat_eq, Bool, false, ◌&&◌, not, if◌then◌else◌, List, filter, fold, find, Option}
use Rattle.std.specs.List.{list_any}
use Rattle.std.specs.Option.{option_map_or}
use Rattle.sums.specs.declared.print.Print.{Print}
use Rattle.tables.specs.Arrivals.{is_arrival, without_arrival}
use Rattle.tables.specs.Bodies.{body_with}
use Rattle.tables.specs.Rows.{Tables, Numbered, changed, rows_of, without}
use Rattle.tables.specs.Uploads.{is_judged, is_upload, without_upload}
use Rattle.tables.specs.Wants.{with_away, without_wants}
use Rattle.tables.specs.declared.rows.ArrivalRow.{ArrivalRow}
use Rattle.tables.specs.declared.rows.UploadRow.{UploadRow}
use Rattle.book.specs.Book.{counts_since}
use Rattle.tables_meaning.specs.Kept.{print_at}
use Rattle.tables_meaning.specs.Sweeping.{swept}

-- ---- what counts

-- the arrival of a row counts at a moment
unfoldable pub counts_row : Option ℕ → ℕ → ArrivalRow → Bool
counts_row span moment a = counts_since span moment a.moment

-- a body of this name and print has arrived, and the arrival counts
unfoldable pub is_current : Option ℕ → ℕ → Tables → List ℕ → Print → Bool
is_current span moment t name print =
    option_map_or (λ body. list_any (λ a. is_arrival name body a && counts_row span moment a) (rows_of t.arrivals)) (body_with print t.bodies) false

-- the upload has no verdict, and its .changes does not count
abbrev pub has_ended : Option ℕ → ℕ → Tables → UploadRow → Bool
has_ended span moment t u = not (is_judged u) && not (is_current span moment t u.name u.print)

-- ---- what the statements of a cleaning do, one after another

-- the upload of this name and print is gone with what it wants, unless it has a verdict
unfoldable pub without_request : List ℕ → Print → Tables → Tables
without_request name print t =
    option_map_or (λ x. if is_judged x.1 then t else without_upload x.0 (without_wants x.0 t)) (find (λ x. is_upload name print x.1) t.uploads) t

-- An arrival goes: its row, the flags of the wants that it filled, and the upload without a verdict that it was, with its wants.
unfoldable pub with_gone : ℕ × ArrivalRow → Tables → Tables
with_gone x t = option_map_or (λ print. without_request x.1.name print (with_away x.1.name print (without_arrival x.0 t))) (print_at t x.1.body) t

-- the arrivals that do not count
abbrev pub ended_rows : Option ℕ → ℕ → Tables → Numbered ArrivalRow
ended_rows span moment t = filter (λ x. not (counts_row span moment x.1)) t.arrivals

-- the arrivals that do not count go one after another, and then the bodies that nothing uses
unfoldable pub with_cleaned : Option ℕ → ℕ → Tables → Tables
with_cleaned span moment t = swept (fold (λ now x. with_gone x now) t (ended_rows span moment t))

-- ---- a cleaning, all at once

-- The rows without the arrivals that do not count, without the uploads without a verdict whose .changes does not count, and
-- without what these want. A want is here if its arrival counts.
unfoldable pub with_current : Option ℕ → ℕ → Tables → Tables
with_current span moment t = record t {
  arrivals = without (λ x. not (counts_row span moment x.1)) t.arrivals;
  uploads = without (λ x. has_ended span moment t x.1) t.uploads;
  wants = changed (λ x. not (is_current span moment t x.1.name x.1.print)) (λ w. record w { here = false })
      (without (λ w. list_any (λ x. nat_eq x.0 w.1.upload && has_ended span moment t x.1) t.uploads) t.wants);
}

-- The rows after a cleaning: those of `with_current`, without the bodies that nothing uses.
unfoldable pub cleaned : Option ℕ → ℕ → Tables → Tables
cleaned span moment t = swept (with_current span moment t)
