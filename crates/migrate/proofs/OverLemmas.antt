-- The book of a keeper that was made over a database.
use Rattle.std.proofs.Common.{◌≡◌, ℕ, Vec, Global}
use Rattle.sqlite.specs.Held.{Held, state}
use Rattle.sqlite.specs.Store.{Ghosts}
use Rattle.rules.specs.Values.{ConfigValue}
use Rattle.book.specs.declared.change.Judgement.{Judgement}
use Rattle.tables.specs.Rows.{tables_in}
use Rattle.tables_meaning.specs.Archives.{book_in_database}
use Rattle.tables_meaning.specs.Shown.{shown_in}
use Rattle.keep_tables.specs.Keepers.{table_book}
use Rattle.keep_tables.specs.declared.keeper.TableKeeper.{TableKeeper}

pub book_over : {S : Type 0} (g : Ghosts S) (k : TableKeeper S g) (conn : Held S) (config : ConfigValue) (judged : Vec Judgement Global) (dates : Vec ℕ Global)
    → k.conn ≡ conn → k.config ≡ config → k.judged ≡ judged → k.dates ≡ dates
    → table_book k ≡ book_in_database (state g conn).committed config judged.items (shown_in config.suites (tables_in (state g conn).committed)) dates.items
book_over g k conn config judged dates to has told dated =
    λ i. book_in_database (state g (to i)).committed (has i) (told i).items (shown_in (has i).suites (tables_in (state g (to i)).committed)) (dated i).items
