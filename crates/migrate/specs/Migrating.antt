-- What a migration makes of the rows of an archive, and of its book.
use Rattle.std.specs.Prelude.{ℕ, List, map}
use Rattle.rules.specs.Values.{ConfigValue}
use Rattle.suites.specs.Shelves.{ShelvesValue}
use Rattle.book.specs.Book.{Book}
use Rattle.book.specs.declared.arrival.Arrival.{Arrival}
use Rattle.tables.specs.Rows.{Tables}
use Rattle.tables_meaning.specs.Configuring.{with_configured}
use Rattle.tables_meaning.specs.Founding.{founded}
use Rattle.old_book.specs.Copying.{copied}

-- The rows of an archive of this configuration that shows this, with these dates, made from those of another archive. Its
-- version, its configuration, its texts and its dates are new. All other rows are those of the other archive, and each arrival
-- gets the moment.
unfoldable pub moved_rows : ConfigValue → ShelvesValue → List ℕ → ℕ → Tables → Tables
moved_rows config shown dates moment t = with_configured config shown dates (copied t moment (founded config moment))

-- The book under another configuration, with the moment at each arrival.
abbrev pub moved_book : ConfigValue → ℕ → Book → Book
moved_book config moment b = record b { config = config; arrivals = map (λ (a : Arrival). record a { moment = moment }) b.arrivals }
