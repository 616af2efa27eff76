-- Rows that a query gives one after another, and what is made of each.
use Rattle.std.specs.Prelude.{◌≡◌, ◌<◌, ◌^◌, ◌⊎◌, ℕ, Bool, true, false, List, [], ◌∷◌, ◌++◌, Option, Some, None, Result, Ok, Err, OnOk}
use Rattle.sqlite.specs.declared.error.Error.{Error}
use Rattle.sqlite.specs.declared.error.Error.TheVariants.{SqliteFailure}
use Rattle.sqlite.specs.declared.error.ErrorCode.TheVariants.{OutOfMemory}
use Rattle.sqlite.specs.Given.{HasGiven}
use Rattle.sqlite.specs.Held.{Held, state}
use Rattle.sqlite.specs.Order.{Row}
use Rattle.sqlite.specs.State.{HasCleanDisk, FailsToQuery, IsUnchanged, Shown, Survives}
use Rattle.sqlite.specs.Store.{Ghosts}
use Rattle.tables.specs.Rows.{Numbered}
use Rattle.tables_read.specs.Layout.{AreRead, IsShort, Layout}
use Rattle.tables_read.specs.Reading.{Spells}

-- The rows after are the rows before and then what a row spells.
pub record Adds {X : Type 0} (l : Layout X) (row : Row) (before after : Numbered X) : Type 0 where
  pub one : ℕ × X
  pub is : after ≡ before ++ one ∷ []
  pub small : one.0 < 2 ^ 64
  pub spells : Spells l.seen row one

-- The query has given one more row, of which `Is` holds.
pub record HasOneMore {S : Type 0} (g : Ghosts S) (sql : List ℕ) (new : Held S) (given : List Row) (Is : Row → Type 0) : Type 0 where
  pub row : Row
  pub has : HasGiven g sql [] new (given ++ row ∷ [])
  pub is : Is row

-- What follows these rows: the next row, which is read, or is not of an archive; or no further row; or an error, of the
-- query, for want of memory, or at a row that lacks a column.
abbrev pub Took : {S X : Type 0} → Ghosts S → Layout X → (X → Type 0) → Held S → Held S → Numbered X → List ℕ → List Row → Result (Option Bool) Error → Type 0
Took g l real old new after sql given (Ok (Some true)) = HasOneMore g sql new given (λ row. AreRead l (given ++ row ∷ []) after)
Took {S} {X} g l real old new after sql given (Ok (Some false)) = HasOneMore g sql new given (λ row. (x : ℕ × X) → real x.1 → ¬ Spells l.seen row x)
Took g l real old new after sql given (Ok None) = Shown sql [] (state g old) (state g new) given × AreRead l given after
Took g l real old new after sql given (Err e) =
    FailsToQuery sql [] (state g old) (state g new) e
    ⊎ (IsUnchanged (state g old) (state g new) × ((e ≡ SqliteFailure OutOfMemory) ⊎ HasOneMore g sql new given (IsShort l)))

-- One step of a query that is read as these rows: it changes nothing and commits nothing.
pub record Steps {S X : Type 0} (g : Ghosts S) (l : Layout X) (real : X → Type 0) (old new : Held S) (before after : Numbered X) (result : Result (Option Bool) Error) : Type 0 where
  pub idle : old.in_transaction ≡ false → new.in_transaction ≡ false
  pub same : HasCleanDisk (state g new) → OnOk result (IsUnchanged (state g old) (state g new))
  pub took : HasCleanDisk (state g new) → (sql : List ℕ) (given : List Row) → HasGiven g sql [] old given → AreRead l given before → Took g l real old new after sql given result
  pub survives : Survives (state g old) (state g new) (λ _. ⊥)
