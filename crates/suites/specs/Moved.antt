-- What the suites show under another configuration: each item in the suite of the same codename.
use Rattle.std.specs.Prelude.{ℕ, Bool, false, List, slice_get, Option, option_map}
use Rattle.std.specs.Option.{option_and_then, option_map_or}
use Rattle.std.specs.List.{list_all, filter_map}
use Rattle.std.specs.FinMap.{entries, from_entries}
use Rattle.rules.specs.Suites.{suite_named}
use Rattle.rules.specs.declared.suite.Suite.{Suite}
use Rattle.suites.specs.Shelves.{ShelvesValue}
use Rattle.suites.specs.Told.{is_kept_by}
use Rattle.suites.specs.declared.item.Item.{Item}
use Rattle.suites.specs.declared.key.ShelfKey.{ShelfKey}

-- the position, among other suites, of the one that has the codename of the suite at a position
abbrev pub place_in : List Suite → List Suite → ℕ → Option ℕ
place_in old new n = option_and_then (λ s. suite_named new s.codename) (slice_get old n)

-- an item on its shelf in the suite of the same codename, if there is such a suite
abbrev pub moved_entry : List Suite → List Suite → ShelfKey × Item → Option (ShelfKey × Item)
moved_entry old new e = option_map (λ n. (record e.0 { suite = n }, e.1)) (place_in old new e.0.suite)

-- what the suites show, each item in the suite of the same codename
unfoldable pub moved : List Suite → List Suite → ShelvesValue → ShelvesValue
moved old new shown = from_entries (filter_map (moved_entry old new) (entries shown))

-- the suite of the same codename is there, and keeps the item's component and architecture
unfoldable pub stays_kept : List Suite → List Suite → ShelfKey × Item → Bool
stays_kept old new e = option_map_or (is_kept_by new) (moved_entry old new e) false

-- all that is shown is kept in the suite of the same codename
unfoldable pub all_stay : List Suite → List Suite → ShelvesValue → Bool
all_stay old new shown = list_all (stays_kept old new) (entries shown)
