-- What is written as JSON has no number with a point, so that its text is exact.
use Rattle.std.proofs.Common.{◌≡◌, ℕ, ◌||◌, List, [], ◌∷◌, map, false, refl, ap}
use Rattle.serde_json.specs.View.{items_of}
use Rattle.serde_json.specs.Written.{has_float, items_have_float}
use Rattle.suites.specs.declared.item.Item.{Item}
use Rattle.suites.specs.declared.item.PoolFile.{PoolFile}
use Rattle.output.specs.Json.{file_data, item_data, shown_data}

no_float : (files : List PoolFile) → items_have_float (items_of (map file_data files)) ≡ false
no_float [] = refl
no_float (file ∷ files) = no_float files

pub item_has_no_float : (item : Item) → has_float (item_data item) ≡ false
item_has_no_float item = ap (λ b. b || false) (no_float item.files)

pub shown_has_no_float : (codename : List ℕ) (item : Item) → has_float (shown_data codename item) ≡ false
shown_has_no_float codename item = ap (λ b. b || false) (no_float item.files)
