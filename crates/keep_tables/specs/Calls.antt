-- What the contracts say of the calls that take a connection and give a keeper, or the connection beside a fault: a word for each clause.
use Rattle.std.specs.Prelude.{◌≡◌, ◌≢◌, ◌⊎◌, Result, IsErrAnd, IfErr, IsTrue, true}
use Rattle.sqlite_trees.specs.declared.store.Store.{Ghosts}
use Rattle.sqlite.specs.Held.{Held, state}
use Rattle.sqlite.specs.State.{State, HasCleanDisk, Survives}
use Rattle.sqlite.specs.Tree.{Trees}
use Rattle.book.specs.declared.fault.KeepFault.{KeepFault}
use Rattle.book.specs.declared.fault.KeepFault.TheVariants.{NoArchive, OutOfMemory}
use Rattle.tables.specs.Causes.{MayFail}
use Rattle.tables.specs.Schema.{no_schema}
use Rattle.tables_meaning.specs.Transactions.{IsUndone}
use Rattle.keep_tables.specs.Opened.{HasUnfinished, IsNoArchive}

module _ {S T : Type 0} (store : Ghosts S) (connection : Held S) (result : Result T (Held S × KeepFault)) where
  -- after a fault what was committed stays
  abbrev pub GivesBack : Type 0
  GivesBack = IfErr result (λ e. HasCleanDisk (state store e.0) → IsUndone (state store connection) (state store e.0))

  -- if a call answers a fault, a crash leaves what it could leave before, or trees of which P holds
  abbrev pub FaultLeaves : (State → Trees → Type 0) → Type 0
  FaultLeaves P = IfErr result (λ e. Survives (state store connection) (state store e.0) (P (state store connection)))

  -- the call is refused with this fault, and the connection is given back as it was
  abbrev pub Refuses : KeepFault → Type 0
  Refuses fault = IsErrAnd result (λ e. (e.1 ≡ fault) × (e.0 ≡ connection))

  -- an opening answers that there is no archive only in a transaction, or if the database keeps none
  abbrev pub RefusesNoArchive : Type 0
  RefusesNoArchive = IfErr result (λ e. e.1 ≡ NoArchive → HasCleanDisk (state store e.0) → (connection.in_transaction ≡ true) ⊎ IsNoArchive (state store connection).now)

  -- another fault of an opening has a cause: memory, the store, or a body that is not whole
  abbrev pub SaysWhy : Type 0
  SaysWhy = IfErr result (λ e. HasCleanDisk (state store e.0) → (e.1 ≡ NoArchive) ⊎ ((e.1 ≡ OutOfMemory) ⊎ (MayFail (state store connection) (state store e.0) ⊎ HasUnfinished (state store connection).now)))

  -- within a transaction there is no opening, and the connection is given back as it was
  abbrev pub RefusesBusy : Type 0
  RefusesBusy = connection.in_transaction ≡ true → Refuses NoArchive

  -- nothing is made within a transaction, or if the database has some object, and the connection is given back as it was
  abbrev pub RefusesTaken : Type 0
  RefusesTaken = (connection.in_transaction ≡ true) ⊎ ((state store connection).now.schema ≢ no_schema) → Refuses NoArchive

  -- the fault is `NoArchive` only within a transaction, or if the database has some object
  abbrev pub RefusesOnlyTaken : Type 0
  RefusesOnlyTaken = IfErr result (λ e. e.1 ≡ NoArchive → (connection.in_transaction ≡ true) ⊎ ((state store connection).now.schema ≢ no_schema))
