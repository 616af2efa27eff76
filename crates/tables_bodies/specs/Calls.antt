-- What the contracts of whole transactions of a body say: a word for each clause, beside those of tables_meaning/specs/Calls.
-- `old` and `new` are before and after the call.
use Rattle.std.specs.Prelude.{Result, IfOk}
use Rattle.sqlite_trees.specs.declared.store.Store.{Ghosts}
use Rattle.sqlite.specs.Held.{Held, state}
use Rattle.sqlite.specs.State.{HasCleanDisk, Survives}
use Rattle.tables.specs.Rows.{Tables, Holds}
use Rattle.tables_meaning.specs.Transactions.{MayCommit}

module _ {S : Type 0} (store : Ghosts S) (old new : Held S) where
  -- a success answers this of the rows before
  abbrev pub AnswersOf : {T E : Type 0} → Result T E → (T → Tables → Type 0) → Type 0
  AnswersOf result Answers = HasCleanDisk (state store new) → IfOk result (λ x. (t : Tables) → Holds (state store old).now t → Answers x t)

  -- a crash meanwhile leaves what it could leave before, or the changed rows, and these only if `Was` holds of the rows before
  abbrev pub CommitsWhere : (Tables → Tables) → (Tables → Type 0) → Type 0
  CommitsWhere change Was = Survives (state store old) (state store new) (λ trees. MayCommit (state store old) change trees × ((t : Tables) → Holds (state store old).now t → Was t))
