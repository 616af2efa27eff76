use Rattle.std.proofs.Common.{◌≤◌, ℕ, drop}
use Rattle.std.specs.Prelude.{Contains}
use Rattle.book.specs.Book.{latest}
use Rattle.tables_meaning.specs.Kept.{date_row}
use Rattle.tables.specs.Rows.{rows_of}
use Rattle.tables_audit.proofs.dates.date_of.Given as goal

-- the date of the suite is not among the rows so far
abbrev pub invariant-loop-row : goal.invariant-loop-row
invariant-loop-row l = (date : ℕ) → date ≤ latest → Contains (rows_of l.rows) (date_row (l.suite, date)) → Contains (rows_of (drop l.row-index l.rows)) (date_row (l.suite, date))
