-- The words of the functions on items.
use Rattle.std.specs.Prelude.{◌≡◌, ℕ, Bool, true, false, ◌&&◌, List, [], ◌∷◌, codes, bytes_eq}
use Rattle.records.specs.Values.{DscValue, SidecarValue}
use Rattle.rules.specs.declared.suite.Suite.{Suite}
use Rattle.suites.specs.Told.{IsTold, is_kept_by}
use Rattle.suites.specs.declared.item.Item.{Item}
use Rattle.suites.specs.declared.item.PoolFile.{PoolFile}
use Rattle.suites.specs.declared.key.ShelfKey.{ShelfKey}

-- the item has the package, the source, the architecture and the version of a .dsc
unfoldable pub has_source_columns : Item → DscValue → Bool
has_source_columns item d =
    bytes_eq item.«package» d.source && bytes_eq item.source d.source && bytes_eq item.architecture (codes "source") && bytes_eq item.version d.version

-- the item has the package, the source, the architecture and the version of a sidecar
unfoldable pub has_binary_columns : Item → SidecarValue → Bool
has_binary_columns item s =
    bytes_eq item.«package» s.name && bytes_eq item.source s.source && bytes_eq item.architecture s.architecture && bytes_eq item.version s.version

-- there is one file, at this path
abbrev pub has_one_at : List ℕ → List PoolFile → Bool
has_one_at path (f ∷ []) = bytes_eq f.path path
has_one_at path _ = false

-- The item is as its paragraph says, on a shelf of a suite that keeps it.
pub record StandsTold (suites : List Suite) (e : ShelfKey × Item) : Type 0 where
  pub told : IsTold e.1
  pub kept : is_kept_by suites e ≡ true
