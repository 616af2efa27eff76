-- What makes one arrival fit.
use Rattle.std.specs.Prelude.{◌≤◌}
use Rattle.book.specs.Book.{latest}
use Rattle.book.specs.Keeping.{IsDeliverable}
use Rattle.tables.specs.Rows.{Tables}
use Rattle.tables.specs.declared.rows.ArrivalRow.{ArrivalRow}
use Rattle.tables_meaning.specs.Kept.{bytes_of}

-- The arrival of this row is one that may be kept.
abbrev pub IsArrivalFit : Tables → ArrivalRow → Type 0
IsArrivalFit t a = IsDeliverable a.name (bytes_of t a.body) × (a.moment ≤ latest)
