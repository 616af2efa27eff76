-- How a table stores its rows, and how a query shows them.
use Rattle.std.specs.Prelude.{◌≡◌, ◌<◌, ◌^◌, ℕ, true, List, [], ◌∷◌, drop, length, map, slice_get, Some}
use Rattle.std.specs.List.{AllByRecursion, AllZip}
use Rattle.sqlite.specs.Order.{Row, column}
use Rattle.sqlite.specs.Table.{Table}
use Rattle.sqlite.specs.Term.{Term}
use Rattle.sqlite.specs.Tree.{Trees, rowid}
use Rattle.sqlite_schema.specs.Rules.{Keeps, are_typed}
use Rattle.sqlite_schema.specs.declared.schema.Constraint.TheVariants.{Datatype}
use Rattle.sqlite_sql.specs.Term.{eval_all}
use Rattle.sqlite.specs.Effect.{Database}
use Rattle.sqlite.specs.State.{State, Shown}
use Rattle.tables.specs.Rows.{Numbered, HasRows, stored}
use Rattle.tables.specs.Schema.{archive_schema}
use Rattle.tables_read.specs.Reading.{Spells, AsksForRows}

-- the tree of a table, its definition, the columns that are asked for, a stored row with NULL in each column that it lacks,
-- the row of a value, and what the columns after the rowid show of it
pub record Layout (X : Type 0) : Type 0 where
  pub tree : ℕ
  pub table : Table
  pub columns : List Term
  pub full : Row → Row
  pub cells : X → Row
  pub seen : X → Row

-- what a query shows of a stored row
abbrev pub show : {X : Type 0} → Layout X → Row → Row
show l r = eval_all l.columns ([] ∷ r ∷ [])

-- the row has a value of the right type in each column, or lacks the last ones
abbrev pub HasTypes : {X : Type 0} → Layout X → Row → Type 0
HasTypes l r = are_typed l.table.key 0 l.table.columns (drop 1 r) ≡ true

-- The schema has a table in the tree. A stored row of the right types is that of a value exactly if the columns show this
-- value.
pub record IsLayout {X : Type 0} (l : Layout X) : Type 0 where
  pub placed : (at : ℕ) × (t : Table) × (slice_get archive_schema.tables at ≡ Some t) × (t.tree ≡ l.tree)
  pub number : (r : Row) → column (show l r) 0 ≡ rowid r
  pub typed : (db : Trees) → Keeps Datatype archive_schema db → AllByRecursion (HasTypes l) (db l.tree)
  pub fits : (x : ℕ × X) (r : Row) → HasTypes l r → Spells l.seen (show l r) x → l.full r ≡ stored l.cells x
  pub back : (x : ℕ × X) (r : Row) → l.full r ≡ stored l.cells x → Spells l.seen (show l r) x

-- the numbers of rows
abbrev pub ids : {X : Type 0} → Numbered X → List ℕ
ids = map (λ x. x.0)

-- the numbers are those of code
abbrev pub AreSmall : List ℕ → Type 0
AreSmall = AllByRecursion (λ n. n < 2 ^ 64)

-- the rows of an answer are read as these
pub record AreRead {X : Type 0} (l : Layout X) (rows : List Row) (all : Numbered X) : Type 0 where
  pub spelled : AllZip (Spells l.seen) rows all
  pub small : AreSmall (ids all)

-- the row lacks a column
abbrev pub IsShort : {X : Type 0} → Layout X → Row → Type 0
IsShort l row = length row < length l.columns

-- what the query for the rows of a table answered
pub record HasAnswer {X : Type 0} (l : Layout X) (old new : State) (P : List Row → Type 0) : Type 0 where
  pub rows : List Row
  pub sql : List ℕ
  pub asks : AsksForRows l.tree l.columns sql
  pub shown : Shown sql [] old new rows
  pub is : P rows

-- no rows that code can hold are what the answer spells
abbrev pub IsNotRead : {X : Type 0} → Layout X → (X → Type 0) → List Row → Type 0
IsNotRead {X} l real rows = (xs : Numbered X) → AllByRecursion (λ x. real x.1) xs → ¬ AllZip (Spells l.seen) rows xs

-- the rows of a table are these
abbrev pub IsTable : {X : Type 0} → Layout X → Database → Numbered X → Type 0
IsTable l db xs = HasRows l.cells xs (map l.full (db.trees l.tree))

-- no rows that code can hold are those of the table
abbrev pub IsNoTable : {X : Type 0} → Layout X → (X → Type 0) → Database → Type 0
IsNoTable {X} l real db = (xs : Numbered X) → AllByRecursion (λ x. real x.1) xs → ¬ HasRows l.cells xs (map l.full (db.trees l.tree))
