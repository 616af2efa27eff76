-- What a keeper over tables has, without the names of its parts.
use Rattle.sqlite.specs.Held.{state}
use Rattle.sqlite.specs.State.{State}
use Rattle.sqlite.specs.Store.{Ghosts}
use Rattle.rules.specs.Values.{ConfigValue}
use Rattle.book.specs.Book.{Book}
use Rattle.tables.specs.Rows.{tables_in}
use Rattle.tables_meaning.specs.Archives.{book_in_database}
use Rattle.tables_meaning.specs.Shown.{shown_in}
use Rattle.keep_tables.specs.declared.keeper.TableKeeper.{TableKeeper}

-- the connection of a keeper, as it shows itself
abbrev pub connection_of : {S : Type 0} {g : Ghosts S} → TableKeeper S g → State
connection_of {S} {g} k = state g k.conn

-- the configuration that its archive has
abbrev pub config_in_use : {S : Type 0} {g : Ghosts S} → TableKeeper S g → ConfigValue
config_in_use k = k.config

-- the book that its tables keep
abbrev pub table_book : {S : Type 0} {g : Ghosts S} → TableKeeper S g → Book
table_book {S} {g} k = book_in_database (state g k.conn).committed k.config k.judged.items (shown_in k.config.suites (tables_in (state g k.conn).committed)) k.dates.items
