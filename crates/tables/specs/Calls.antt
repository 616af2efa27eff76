-- What the contracts of functions over SQL say: a word for each clause. `old` and `new` are before and after the call.
use Rattle.std.specs.Prelude.{◌≡◌, Result, IsTrue, IfOk, OnOk, OnErr}
use Rattle.sqlite_trees.specs.declared.store.Store.{Ghosts}
use Rattle.sqlite.specs.declared.transaction.Transaction.{Transaction}
use Rattle.sqlite.specs.Held.{Held, state}
use Rattle.sqlite.specs.State.{State, HasCleanDisk, IsUnchanged, KeepsCommit, Survives}
use Rattle.tables.specs.Inside.{GoesOn}
use Rattle.tables.specs.Rows.{Tables, Holds, Changes, Fails, IsForeign}

-- ---- of a connection

module _ {S : Type 0} (store : Ghosts S) (old new : Held S) where
  -- on a disk that returns what was written to it
  abbrev pub OnCleanDisk : (State → State → Type 0) → Type 0
  OnCleanDisk P = HasCleanDisk (state store new) → P (state store old) (state store new)

  -- P holds over the rows, whatever they are, on a disk that returns what was written to it
  abbrev pub OverRows : (Tables → State → State → Type 0) → Type 0
  OverRows P = HasCleanDisk (state store new) → (t : Tables) → Holds (state store old).now t → P t (state store old) (state store new)

  -- a success answers this of the rows, and changes nothing
  abbrev pub Reads : {T E : Type 0} → Result T E → (Tables → T → Type 0) → Type 0
  Reads result Answers = HasCleanDisk (state store new) → (t : Tables) → Holds (state store old).now t → IfOk result (λ x. Answers t x × IsUnchanged (state store old) (state store new))

  -- after an error the connection is as it was, or is undone
  abbrev pub ReadFails : {T E : Type 0} → Result T E → Type 0
  ReadFails result = HasCleanDisk (state store new) → (t : Tables) → Holds (state store old).now t → OnErr result (Fails (state store old) (state store new))

  -- a crash meanwhile leaves what it could leave before
  abbrev pub NeverCommits : Type 0
  NeverCommits = Survives (state store old) (state store new) (λ _. ⊥)

  -- a crash meanwhile leaves what it could leave before, if the tables are those of an archive
  abbrev pub CommitsNoRows : Type 0
  CommitsNoRows = Survives (state store old) (state store new) (λ _. (t : Tables) → ¬ Holds (state store old).now t)

  -- a crash meanwhile leaves what it could leave before, if the tables' schema is that of an archive
  abbrev pub CommitsNothingOfOurs : Type 0
  CommitsNothingOfOurs = Survives (state store old) (state store new) (λ _. IsForeign (state store old).now)

-- ---- inside a transaction

-- the two transactions are of the same connection
abbrev pub IsSame : {S : Type 0} → Transaction S → Transaction S → Type 0
IsSame old new = new.conn.ghost_name ≡ old.conn.ghost_name

module _ {S : Type 0} (store : Ghosts S) (old new : Transaction S) where
  -- on a disk that returns what was written to it, while the transaction lasts
  abbrev pub Inside : (State → State → Type 0) → Type 0
  Inside P = HasCleanDisk (state store new.conn.now) → IsTrue (state store old.conn.now).in_transaction → P (state store old.conn.now) (state store new.conn.now)

  -- a success changes the rows so, and nothing else
  abbrev pub Writes : {T E : Type 0} → Result T E → (Tables → Tables) → Type 0
  Writes result change = HasCleanDisk (state store new.conn.now) → IsTrue (state store old.conn.now).in_transaction → OnOk result (Changes (state store old.conn.now) (state store new.conn.now) change)

  -- a success changes the rows so, and nothing else, and answers this of the rows before
  abbrev pub WritesAnd : {T E : Type 0} → Result T E → (Tables → Tables) → (T → Tables → Type 0) → Type 0
  WritesAnd result change Answers = HasCleanDisk (state store new.conn.now) → IsTrue (state store old.conn.now).in_transaction
      → IfOk result (λ x. Changes (state store old.conn.now) (state store new.conn.now) change × ((t : Tables) → Holds (state store old.conn.now).now t → Answers x t))

  -- after an error the transaction is as it was, or is undone
  abbrev pub FailsInside : {T E : Type 0} → Result T E → Type 0
  FailsInside result = HasCleanDisk (state store new.conn.now) → IsTrue (state store old.conn.now).in_transaction → OnErr result (Fails (state store old.conn.now) (state store new.conn.now))

  -- after an error what was committed stays
  abbrev pub KeepsCommitted : {T E : Type 0} → Result T E → Type 0
  KeepsCommitted result = HasCleanDisk (state store new.conn.now) → IsTrue (state store old.conn.now).in_transaction → OnErr result (KeepsCommit (state store old.conn.now) (state store new.conn.now))

  -- after a success the transaction goes on
  abbrev pub GoesOnInside : {T E : Type 0} → Result T E → Type 0
  GoesOnInside result = HasCleanDisk (state store new.conn.now) → IsTrue (state store old.conn.now).in_transaction → OnOk result (GoesOn (state store old.conn.now) (state store new.conn.now))

  -- over these rows, whatever they are
  abbrev pub OverRowsInside : (Tables → State → State → Type 0) → Type 0
  OverRowsInside P = HasCleanDisk (state store new.conn.now) → (t : Tables) → Holds (state store old.conn.now).now t → P t (state store old.conn.now) (state store new.conn.now)

  -- a success answers this of the rows, and changes nothing
  abbrev pub Looks : {T E : Type 0} → Result T E → (Tables → T → Type 0) → Type 0
  Looks result Answers = HasCleanDisk (state store new.conn.now) → (t : Tables) → Holds (state store old.conn.now).now t → IfOk result (λ x. Answers t x × IsUnchanged (state store old.conn.now) (state store new.conn.now))

  -- after an error of a look the transaction is as it was, or is undone
  abbrev pub LookFails : {T E : Type 0} → Result T E → Type 0
  LookFails result = HasCleanDisk (state store new.conn.now) → (t : Tables) → Holds (state store old.conn.now).now t → OnErr result (Fails (state store old.conn.now) (state store new.conn.now))

  -- a crash meanwhile leaves what it could leave before
  abbrev pub CommitsNothing : Type 0
  CommitsNothing = Survives (state store old.conn.now) (state store new.conn.now) (λ _. ⊥)
