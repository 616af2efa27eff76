-- What a suite may be given, and what comes and goes then.
use Rattle.std.specs.Prelude.{◌≢◌, ℕ, List, map, filter, not, ◌++◌, AllPairs, option_to_list}
use Rattle.std.specs.List.{flat_map}
use Rattle.std.specs.FinMap.{get, values}
use Rattle.suites.specs.Pool.{files_of, AreAgreed}
use Rattle.suites.specs.Shelves.{ShelvesWith, ShelvesValue, is_covered}
use Rattle.suites.specs.declared.item.Item.{Item}
use Rattle.suites.specs.declared.key.ShelfKey.{ShelfKey}

-- Each of the items has a shelf of its own, and they agree with each other and with what is shown on the contents at each
-- path.
pub record MayJoin (shelves : ShelvesValue) (items : List (ShelfKey × Item)) : Type 0 where
  pub apart : AllPairs (λ a b. a.0 ≢ b.0) items
  pub agreed : AreAgreed (files_of (values shelves) ++ files_of (map (λ a. a.1) items))

-- the items, each with its shelf, that no shown item covers
abbrev pub arriving : {X : Type 0} → (X → List ℕ) → ShelvesWith X → List (ShelfKey × X) → List (ShelfKey × X)
arriving version shelves items = filter (λ a. not (is_covered version shelves a)) items

-- what stands on a shelf
abbrev pub standing_at : {X : Type 0} → ShelvesWith X → ShelfKey → List (ShelfKey × X)
standing_at shelves key = map (λ x. (key, x)) (option_to_list (get shelves key))

-- what stands on the shelves of some items
abbrev pub replaced : {X : Type 0} → ShelvesWith X → List (ShelfKey × X) → List (ShelfKey × X)
replaced shelves items = flat_map (λ a. standing_at shelves a.0) items
