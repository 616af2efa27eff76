-- What the contracts say of a keeper over tables after a call, or of the one that a call gives: a word for each clause.
use Rattle.std.specs.Prelude.{◌⊎◌, Result, IfOk, IsTrue}
use Rattle.sqlite_trees.specs.declared.store.Store.{Ghosts}
use Rattle.sqlite.specs.Held.{Held, state}
use Rattle.sqlite.specs.State.{State, HasCleanDisk, Survives}
use Rattle.sqlite.specs.Tree.{Trees}
use Rattle.rules.specs.Values.{ConfigValue}
use Rattle.book.specs.Keeping.{MoreFaults}
use Rattle.tables_meaning.specs.Archives.{KeepsBook, KeepsFinished}
use Rattle.keep_tables.specs.Keepers.{config_in_use, connection_of, table_book}
use Rattle.keep_tables.specs.Opened.{IsFinished}
use Rattle.keep_tables.specs.declared.keeper.TableKeeper.{TableKeeper}

module _ {S : Type 0} {store : Ghosts S} (keeper : TableKeeper S store) where
  -- only a failure that the store counted since shuts the connection
  abbrev pub IsShutByFailure : Held S → Type 0
  IsShutByFailure connection = HasCleanDisk (connection_of keeper) → IsTrue (connection_of keeper).is_open ⊎ MoreFaults (state store connection).faults (connection_of keeper).faults

  -- while the connection is open its tables keep the keeper's book, under this configuration
  abbrev pub KeepsItsBook : ConfigValue → Type 0
  KeepsItsBook config = HasCleanDisk (connection_of keeper) → IsTrue (connection_of keeper).is_open → KeepsBook (connection_of keeper).committed config (table_book keeper)

module _ {S F : Type 0} (store : Ghosts S) (connection : Held S) (result : Result (TableKeeper S store) F) where
  -- if a call gives a keeper, a crash leaves what it could leave before, or trees of which P holds
  abbrev pub KeeperLeaves : (State → Trees → Type 0) → Type 0
  KeeperLeaves P = IfOk result (λ keeper. Survives (state store connection) (connection_of keeper) (P (state store connection)))

  -- the keeper is that of the archive that was committed, without the bodies that are not whole, and has its book
  abbrev pub OpensFinished : Type 0
  OpensFinished = IfOk result (λ keeper. HasCleanDisk (connection_of keeper) → IsFinished (state store connection) (connection_of keeper)
      × KeepsFinished (state store connection).committed (config_in_use keeper) (table_book keeper))
