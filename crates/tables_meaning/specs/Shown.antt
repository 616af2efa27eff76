-- What the rows of items and of their files show.
use Rattle.std.specs.Prelude.{◌≡◌, ℕ, bytes_eq, Bool, ◌&&◌, ◌||◌, not, false, List, map, Option, Some, None, option_map}
use Rattle.std.specs.List.{filter_map, list_any}
use Rattle.std.specs.Option.{option_and_then, option_map_or, option_or}
use Rattle.std.specs.FinMap.{from_entries, get, insert}
use Rattle.std.specs.FinMap as keyed
use Rattle.rules.specs.Suites.{suite_named}
use Rattle.rules.specs.declared.suite.Suite.{Suite}
use Rattle.sums.specs.Prints.{same_print}
use Rattle.sums.specs.declared.print.Print.{Print}
use Rattle.suites.specs.Items.{standing}
use Rattle.suites.specs.Keys.{key_order, kind_numbered}
use Rattle.suites.specs.Pool.{PoolWith}
use Rattle.suites.specs.Shelves.{ShelvesValue, pool}
use Rattle.suites.specs.declared.item.Item as shelf
use Rattle.suites.specs.declared.item.PoolFile.{PoolFile}
use Rattle.suites.specs.declared.key.Kind.{Kind}
use Rattle.suites.specs.declared.key.ShelfKey.{ShelfKey}
use Rattle.tables.specs.Rows.{Numbered, Tables}
use Rattle.tables.specs.declared.rows.ItemRow.{ItemRow}
use Rattle.tables.specs.declared.rows.Ref.{Ref}
use Rattle.tables_meaning.specs.Kept.{IsReadable, refs_in}

-- the file of a row
abbrev pub file_in : Ref → PoolFile
file_in r = record { path = r.path; print = r.print }

-- the item of a row, of this kind and with these files
abbrev pub item_with : Kind → ItemRow → List Ref → shelf.Item
item_with kind x refs = record {
  kind = kind;
  «package» = x.«package»;
  architecture = x.architecture;
  version = x.version;
  component = x.component;
  source = x.source;
  paragraph = x.paragraph;
  files = map file_in refs;
}

-- what a row with these files shows: its item on its shelf; a row of no suite of the configuration, or of no kind,
-- shows nothing
unfoldable pub entry_with : List Suite → ItemRow → List Ref → Option (ShelfKey × shelf.Item)
entry_with suites x refs = option_and_then (λ suite. option_map (λ kind. standing suite (item_with kind x refs)) (kind_numbered x.kind)) (suite_named suites x.suite)

-- what a row of the tables shows
abbrev pub entry_in : List Suite → Tables → ℕ × ItemRow → Option (ShelfKey × shelf.Item)
entry_in suites t x = entry_with suites x.1 (refs_in t x.0)

-- what all rows show
unfoldable pub shown_in : List Suite → Tables → ShelvesValue
shown_in suites t = from_entries (filter_map (entry_in suites t) t.items)

-- ---- files that may not join a pool

-- two files stand at one path, with different prints
unfoldable pub clash : PoolFile → PoolFile → Bool
clash f g = bytes_eq f.path g.path && not (same_print f.print g.print)

-- the pool has another print at the path of a file
unfoldable pub is_taken : PoolWith Print → PoolFile → Bool
is_taken pool f = option_map_or (λ there. not (same_print there f.print)) (get pool f.path) false

-- a file of an item clashes with what is in the pool, or with another of its files
unfoldable pub may_not_join : PoolWith Print → List PoolFile → PoolFile → Bool
may_not_join pool files f = is_taken pool f || list_any (clash f) files

-- ---- items that come to their shelves

-- an item comes to its shelf, which is empty
pub record IsPut (old new : ShelvesValue) (e : ShelfKey × shelf.Item) : Type 0 where
  pub free : get old e.0 ≡ None
  pub made : new ≡ insert old e.0 e.1

-- what a row with these files shows comes to its shelf
pub record PutsRow (suites : List Suite) (x : ItemRow) (refs : List Ref) (old new : ShelvesValue) : Type 0 where
  pub entry : ShelfKey × shelf.Item
  pub is : entry_with suites x refs ≡ Some entry
  pub put : IsPut old new entry

-- An item may come to its shelf: the shelf is empty, and each of the item's files may join the pool.
pub record MayBePut (old : ShelvesValue) (e : ShelfKey × shelf.Item) : Type 0 where
  pub free : get old e.0 ≡ None
  pub fits : list_any (may_not_join (pool old) e.1.files) e.1.files ≡ false

-- What a row with these files shows may come to its shelf.
pub record MayStand (suites : List Suite) (x : ItemRow) (refs : List Ref) (old : ShelvesValue) : Type 0 where
  pub readable : IsReadable x
  pub entry : ShelfKey × shelf.Item
  pub is : entry_with suites x refs ≡ Some entry
  pub may : MayBePut old entry

-- The shelves so far, with what the rows that are left show, are what all rows show.
abbrev pub AreLeft : List Suite → Tables → ShelvesValue → Numbered ItemRow → Type 0
AreLeft suites t so_far left = (key : ShelfKey) → option_or (get so_far key) (keyed.find key_order key (filter_map (entry_in suites t) left)) ≡ get (shown_in suites t) key
