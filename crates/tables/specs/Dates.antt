-- What the statements on dates speak of.
use Rattle.std.specs.Prelude.{ℕ, Bool, List, [], bytes_eq}
use Rattle.tables.specs.Rows.{Tables, changed}
use Rattle.tables.specs.declared.rows.Date.{Date}

abbrev pub has_suite : List ℕ → Date → Bool
has_suite suite x = bytes_eq x.suite suite

-- the date of a suite becomes another
abbrev pub with_new_date : List ℕ → ℕ → Tables → Tables
with_new_date suite moment t = record t { dates = changed (λ x. has_suite suite x.1) (λ x. record x { moment = moment }) t.dates }

-- no date is left
abbrev pub without_dates : Tables → Tables
without_dates t = record t { dates = [] }
