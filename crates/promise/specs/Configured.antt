-- Another configuration of an archive that a database keeps, and the commands after it: a name for each clause.
use Rattle.std.specs.Prelude.{◌≡◌, ℕ, List, Option, Result, IfOk, IfErr, OnOk, OnErr, IsTrue, true, false}
use Rattle.std.specs.declared.alloc.AllocError.{AllocError}
use Rattle.std.specs.declared.alloc.Global.{Global}
use Rattle.std.specs.declared.vec.Vec.{Vec}
use Rattle.sqlite.specs.Held.{Held, state}
use Rattle.sqlite.specs.State.{HasCleanDisk}
use Rattle.sqlite.specs.Store.{Ghosts}
use Rattle.rules.specs.Values.{ConfigValue}
use Rattle.book.specs.Book.{Book}
use Rattle.book.specs.Configured.{configured, keeps_shown}
use Rattle.book.specs.declared.fault.KeepFault.{KeepFault}
use Rattle.book.specs.declared.fault.KeepFault.TheVariants.{Configuration as NotKept}
use Rattle.tables_meaning.specs.Archives.{KeepsFinished}
use Rattle.keep_tables.specs.Keepers.{config_in_use, connection_of, table_book}
use Rattle.keep_tables.specs.declared.keeper.TableKeeper.{TableKeeper}
use Rattle.queue.specs.Configuring.{IsLeftConfigured}
use Rattle.history.specs.declared.command.Command.{Command}
use Rattle.history.specs.declared.command.Outcome.{Outcome}
use Rattle.promise.specs.Lists.{GoesOn, MayFind}

-- what came of a configuration and the commands after it: the fault for which the configuration was refused, or the outcomes, if there was
-- memory for them
abbrev pub Made : Type 0
Made = Result (Result (Vec Outcome Global) AllocError) KeepFault

-- this holds of the outcomes, if there are some
abbrev pub IfMade : Made → (Vec Outcome Global → Type 0) → Type 0
IfMade made P = IfOk made (λ done. IfOk done P)

-- the keeper has the configuration, if it was taken
abbrev pub HasIfTaken : {S : Type 0} {g : Ghosts S} → TableKeeper S g → ConfigValue → Made → Type 0
HasIfTaken k config made = HasCleanDisk (connection_of k) → OnOk made (config_in_use k ≡ config)

module _ {S : Type 0} {g : Ghosts S} (k : TableKeeper S g) (config : ConfigValue) (moment : ℕ) where
  module _ (book : Book) where
    -- The configuration keeps all that this book shows, and the commands go on after the configured book. If there is no memory for the
    -- outcomes, no command was made, and the connection is open.
    abbrev pub IsTaken : List Command → Result (Vec Outcome Global) AllocError → Type 0
    IsTaken commands done = (keeps_shown config book ≡ true)
        × IfOk done (GoesOn k (configured config moment book) commands)
        × OnErr done (IsTrue (connection_of k).is_open × (table_book k ≡ configured config moment book))

    -- The configuration was refused; if the fault is that of a configuration, it does not keep all that this book shows. The book is as it
    -- was, and a crash leaves that book, or the configured one.
    abbrev pub IsRefused : KeepFault → Type 0
    IsRefused fault = (fault ≡ NotKept → keeps_shown config book ≡ false)
        × (IsTrue (connection_of k).is_open → table_book k ≡ book)
        × ((left : Option Book) → MayFind k left → IsLeftConfigured config moment book left)

  -- the database kept a book, of which this holds
  abbrev pub GoesOnConfigured : Held S → List Command → Made → Type 0
  GoesOnConfigured connection commands made = HasCleanDisk (connection_of k) → (book : Book) × KeepsFinished (state g connection).committed book.config book
      × IfOk made (IsTaken book commands) × IfErr made (IsRefused book)
