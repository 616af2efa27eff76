-- The database of a keeper keeps its book.
use Rattle.std.proofs.Common.{IsTrue, refl}
use Rattle.std.proofs.Math.Logic.{∥∥₁_map}
use Rattle.sqlite.specs.State.{HasCleanDisk}
use Rattle.sqlite.specs.Store.{Ghosts}
use Rattle.tables.specs.Rows.{tables_in}
use Rattle.tables_meaning.specs.Archives.{KeepsBook}
use Rattle.tables_meaning.specs.Shown.{shown_in}
use Rattle.keep_tables.specs.Keepers.{config_in_use, connection_of, table_book}
use Rattle.keep_tables.specs.declared.keeper.TableKeeper.{TableKeeper}

pub keeps_book : {S : Type 0} {g : Ghosts S} (k : TableKeeper S g) → HasCleanDisk (connection_of k) → IsTrue (connection_of k).is_open
    → KeepsBook (connection_of k).committed (config_in_use k) (table_book k)
keeps_book k clean up = ∥∥₁_map (k.kept clean up) (λ h. (k.judged.items, shown_in k.config.suites (tables_in (connection_of k).committed), k.dates.items, h, refl))
