-- What rows of items and of their files show, as far as they have been read.
use Rattle.std.specs.Prelude.{◌≡◌, ℕ, ◌+◌, nat_eq, Bool, true, ◌&&◌, List, [], ◌∷◌, ◌++◌, All, Option, Some}
use Rattle.std.specs.List.{filter_map}
use Rattle.std.specs.FinMap.{get}
use Rattle.std.specs.FinMap as keyed
use Rattle.rules.specs.declared.suite.Suite.{Suite}
use Rattle.suites.specs.Keys.{key_order}
use Rattle.suites.specs.Shelves.{ShelvesValue}
use Rattle.suites.specs.declared.item.Item as shelf
use Rattle.suites.specs.declared.key.ShelfKey.{ShelfKey}
use Rattle.tables.specs.Rows.{Numbered, rows_of}
use Rattle.tables.specs.declared.rows.ItemRow.{ItemRow}
use Rattle.tables.specs.declared.rows.Ref.{Ref}
use Rattle.tables_meaning.specs.Kept.{IsReadable, refs_among}
use Rattle.tables_meaning.specs.Shown.{MayStand, PutsRow, entry_with}

-- the files are numbered on from n
unfoldable pub are_numbered_from : ℕ → List Ref → Bool
are_numbered_from n [] = true
are_numbered_from n (r ∷ refs) = nat_eq r.number n && are_numbered_from (n + 1) refs

-- the rows of the files of an item, in the order of their numbers
abbrev pub refs_at : Numbered Ref → ℕ → List Ref
refs_at refs id = refs_among (rows_of refs) id

-- what a row shows
abbrev pub entry_at : List Suite → Numbered Ref → ℕ × ItemRow → Option (ShelfKey × shelf.Item)
entry_at suites refs x = entry_with suites x.1 (refs_at refs x.0)

-- The row shows an item, with files numbered from 1 on.
pub record IsShown (suites : List Suite) (refs : Numbered Ref) (x : ℕ × ItemRow) : Type 0 where
  pub readable : IsReadable x.1
  pub numbered : are_numbered_from 1 (refs_at refs x.0) ≡ true
  pub entry : ShelfKey × shelf.Item
  pub is : entry_at suites refs x ≡ Some entry

-- The shelves show what these rows do, each of which shows an item.
pub record AreShown (suites : List Suite) (refs : Numbered Ref) (items : Numbered ItemRow) (shelves : ShelvesValue) : Type 0 where
  pub stands : (key : ShelfKey) → get shelves key ≡ keyed.find key_order key (filter_map (entry_at suites refs) items)
  pub each : All (IsShown suites refs) items

-- The row's item comes to its shelf, with files numbered from 1 on.
pub record Joins (suites : List Suite) (refs : Numbered Ref) (x : ℕ × ItemRow) (old new : ShelvesValue) : Type 0 where
  pub readable : IsReadable x.1
  pub numbered : are_numbered_from 1 (refs_at refs x.0) ≡ true
  pub puts : PutsRow suites x.1 (refs_at refs x.0) old new

-- The row's item may come to its shelf, with files numbered from 1 on.
pub record MayJoin (suites : List Suite) (refs : Numbered Ref) (x : ℕ × ItemRow) (old : ShelvesValue) : Type 0 where
  pub numbered : are_numbered_from 1 (refs_at refs x.0) ≡ true
  pub stands : MayStand suites x.1 (refs_at refs x.0) old

-- Some row's item may not come to its shelf, beside the items of the rows before it.
pub record AreStopped (suites : List Suite) (refs : Numbered Ref) (items : Numbered ItemRow) : Type 0 where
  pub before : Numbered ItemRow
  pub row : ℕ × ItemRow
  pub behind : Numbered ItemRow
  pub are : items ≡ before ++ row ∷ behind
  pub shelves : ShelvesValue
  pub shown : AreShown suites refs before shelves
  pub refused : ¬ MayJoin suites refs row shelves
