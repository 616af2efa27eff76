-- What a keeper over tables says of itself as a keeper, in words of its connection.
use Rattle.std.proofs.Common.{ℕ, Option, IsTrue}
use Rattle.sqlite.specs.Held.{state}
use Rattle.sqlite.specs.State.{HasCleanDisk}
use Rattle.sqlite.specs.Store.{Ghosts}
use Rattle.sqlite.specs.Tree.{Trees}
use Rattle.book.specs.Book.{Book}
use Rattle.book.specs.Keeping.{Stays}
use Rattle.tables_meaning.specs.Archives.{KeepsLeft}
use Rattle.keep_tables.specs.Keepers.{table_book}
use Rattle.keep_tables.specs.declared.keeper.TableKeeper.{TableKeeper}

module _ {S : Type 0} (g : Ghosts S) where
  abbrev pub clean_in : TableKeeper S g → Type 0
  clean_in k = HasCleanDisk (state g k.conn)

  abbrev pub open_in : TableKeeper S g → Type 0
  open_in k = IsTrue (state g k.conn).is_open

  abbrev pub faults_in : TableKeeper S g → ℕ
  faults_in k = (state g k.conn).faults

  abbrev pub kept_in : TableKeeper S g → Book
  kept_in k = table_book k

  abbrev pub may_leave_in : TableKeeper S g → Option Book → Type 0
  may_leave_in k left = (trees : Trees) × (state g k.conn).may_leave trees × KeepsLeft trees left

  abbrev pub StaysIn : TableKeeper S g → TableKeeper S g → Type 0
  StaysIn = Stays clean_in open_in faults_in kept_in may_leave_in
