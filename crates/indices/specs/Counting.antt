-- How many items a suite shows.
use Rattle.std.specs.Prelude.{ℕ, ◌==◌, Bool, true, ◌&&◌, length, filter, Option}
use Rattle.std.specs.FinMap.{entries}
use Rattle.std.specs.Option.{option_map_or}
use Rattle.suites.specs.Keys.{kind_number}
use Rattle.suites.specs.Shelves.{ShelvesValue}
use Rattle.suites.specs.declared.item.Item.{Item}
use Rattle.suites.specs.declared.key.Kind.{Kind}
use Rattle.suites.specs.declared.key.ShelfKey.{ShelfKey}

-- an item on its shelf is of the suite at a position, and of a kind if one is given
abbrev pub is_counted : ℕ → Option Kind → ShelfKey × Item → Bool
is_counted suite kind a = option_map_or (λ k. kind_number a.1.kind == kind_number k) kind true && (a.0.suite == suite)

-- how many items the suite at a position shows: those of a kind if one is given, or else all
unfoldable pub item_count : ShelvesValue → ℕ → Option Kind → ℕ
item_count shelves suite kind = length (filter (is_counted suite kind) (entries shelves))
