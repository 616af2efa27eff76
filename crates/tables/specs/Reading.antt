-- What a query gives, as typed rows.
use Rattle.std.specs.Prelude.{◌≡◌, ℕ, List, map, slice_get, Option}
use Rattle.sqlite.specs.Order.{Row}
use Rattle.sqlite.specs.Listing.{understood}
use Rattle.sqlite.specs.Given.{IsPlain}
use Rattle.sqlite.specs.State.{State, Shown, IsUnchanged}

-- the text is a statement that does not read the time, and that gives no rows if it is a write
abbrev pub IsPlainIn : State → List ℕ → Type 0
IsPlainIn s sql = IsPlain (understood s.now.schema sql)

-- the query answers rows that read as these, and changes nothing
pub record IsRead {X : Type 0} (of_row : Row → X) (sql : List ℕ) (params : Row) (old new : State) (all : List X) : Type 0 where
  pub rows : List Row
  pub shown : Shown sql params old new rows
  pub are : all ≡ map of_row rows
  pub same : IsUnchanged old new

-- the first row of such an answer
pub record IsReadFirst {X : Type 0} (of_row : Row → X) (sql : List ℕ) (params : Row) (old new : State) (first : Option X) : Type 0 where
  pub all : List X
  pub read : IsRead of_row sql params old new all
  pub is : first ≡ slice_get all 0
