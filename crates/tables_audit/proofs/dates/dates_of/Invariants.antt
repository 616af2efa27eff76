use Rattle.std.proofs.Common.{◌≡◌, ◌≤◌, length, map, take}
use Rattle.std.specs.List.{zip}
use Rattle.std.specs.Prelude.{All, Contains}
use Rattle.book.specs.Book.{latest}
use Rattle.tables_meaning.specs.Kept.{date_row}
use Rattle.tables.specs.Rows.{rows_of}
use Rattle.tables_audit.proofs.dates.dates_of.Given as goal

-- the dates of the suites so far are among the rows
abbrev pub invariant-loop-suite : goal.invariant-loop-suite
invariant-loop-suite l = record {
  many : length l.dates.items ≡ l.suite-index;
  are : All (Contains (rows_of l.rows)) (map date_row (zip (take l.suite-index l.suites) l.dates.items));
  in_range : All (λ d. d ≤ latest) l.dates.items;
}
