-- What the suites show: of all items ever admitted, those that are held.
use Rattle.std.specs.Prelude.{◌≡◌, ℕ, Bool, false, if◌then◌else◌, ◌&&◌, not, List, ◌++◌, All}
use Rattle.std.specs.Ordering.{is_lt, eq_by_cmp}
use Rattle.std.specs.FinMap.{FinMap, from_entries, entries, values, get, insert}
use Rattle.std.specs.Option.{option_map_or}
use Rattle.sums.specs.declared.print.Print.{Print}
use Rattle.vers.specs.Order.{version_cmp}
use Rattle.suites.specs.Held.{held}
use Rattle.suites.specs.Keys.{key_order}
use Rattle.suites.specs.Items.{IsAtHome}
use Rattle.suites.specs.Pool.{PoolWith, pool_of, files_of, AreAgreed}
use Rattle.suites.specs.declared.key.ShelfKey.{ShelfKey}
use Rattle.suites.specs.declared.item.Item.{Item}

-- Of two versions of items, the first is at least as great, or greater (Policy 5.6.12).
unfoldable pub is_at_least : List ℕ → List ℕ → Bool
is_at_least v w = not (is_lt (version_cmp v w))

unfoldable pub is_above : List ℕ → List ℕ → Bool
is_above v w = is_lt (version_cmp w v)

-- of two items with their shelves, the first is for the same shelf, and of a version at least as great
unfoldable pub covers : {X : Type 0} → (X → List ℕ) → ShelfKey × X → ShelfKey × X → Bool
covers version a b = eq_by_cmp key_order a.0 b.0 && is_at_least (version a.1) (version b.1)

-- of two items with their shelves, the first is for the same shelf, and of a greater version
unfoldable pub beats : {X : Type 0} → (X → List ℕ) → ShelfKey × X → ShelfKey × X → Bool
beats version a b = eq_by_cmp key_order a.0 b.0 && is_above (version a.1) (version b.1)

-- one item a shelf
abbrev pub ShelvesWith : Type 0 → Type 0
ShelvesWith X = FinMap key_order X

-- What the suites show if these items were admitted in this order: on each shelf the greatest version, and of equal ones
-- the first.
unfoldable pub shown : {X : Type 0} → (X → List ℕ) → List (ShelfKey × X) → ShelvesWith X
shown version admitted = from_entries (held (covers version) (beats version) admitted)

-- what the suites show if they show `shelves`, and these items are admitted then
abbrev pub shown_after : {X : Type 0} → (X → List ℕ) → ShelvesWith X → List (ShelfKey × X) → ShelvesWith X
shown_after version shelves admitted = shown version (entries shelves ++ admitted)

-- a version at least as great stands on the shelf already
abbrev pub is_covered : {X : Type 0} → (X → List ℕ) → ShelvesWith X → ShelfKey × X → Bool
is_covered version shelves a = option_map_or (λ x. is_at_least (version x) (version a.1)) (get shelves a.0) false

-- the shelves with one more item admitted
abbrev pub with_admitted : {X : Type 0} → (X → List ℕ) → ShelvesWith X → ShelfKey × X → ShelvesWith X
with_admitted version shelves a = if is_covered version shelves a then shelves else insert shelves a.0 a.1

-- what the program's shelves show
abbrev pub ShelvesValue : Type 0
ShelvesValue = ShelvesWith Item

abbrev pub version_of : Item → List ℕ
version_of item = item.version

-- the pool: the files of the items that some suite shows
abbrev pub pool : ShelvesValue → PoolWith Print
pool shelves = pool_of (files_of (values shelves))

-- Each item stands on its own shelf, and all agree on the contents at each path.
pub record AreSound (shelves : ShelvesValue) : Type 0 where
  pub at_home : All IsAtHome (entries shelves)
  pub agreed : AreAgreed (files_of (values shelves))
