-- What a migration makes of the book of an older layout.
use Rattle.std.specs.Prelude.{ℕ}
use Rattle.rules.specs.Values.{ConfigValue}
use Rattle.book.specs.Book.{Book}
use Rattle.book.specs.Configured.{AreAlike}
use Rattle.tables.specs.Rows.{Tables}
use Rattle.tables_read.specs.All.{tables_with}
use Rattle.tables_meaning.specs.Kept.{book_in}
use Rattle.old_book.specs.declared.old.OldBook.{OldBook}
use Rattle.migrate.specs.Migrating.{moved_book, moved_rows}

-- the configuration that the book had
abbrev pub old_config : OldBook → ConfigValue
old_config old = old.held.config

-- the configuration has the suites that the book had, in their order; only how long arrivals count and how long a Release is valid may
-- differ
abbrev pub HasItsSuites : OldBook → ConfigValue → Type 0
HasItsSuites old config = AreAlike (old_config old) config

-- the rows that are written, under another configuration and with arrivals as of a moment
abbrev pub migrated_rows : OldBook → ConfigValue → ℕ → Tables
migrated_rows old config moment = moved_rows config old.held.shelves old.held.dates.items moment (tables_with old.rows)

-- the book that they keep
abbrev pub migrated_book : OldBook → ConfigValue → ℕ → Book
migrated_book old config moment =
    moved_book config moment (book_in old.held.config old.held.judged.items old.held.shelves old.held.dates.items (tables_with old.rows))
