-- The items of an accepted upload, and what became of each, as lines.
use Rattle.std.specs.Prelude.{ℕ, Bool, false, ◌&&◌, if◌then◌else◌, List, [], ◌∷◌, map, codes, bytes_eq, slice_get, Option, Some, None, option_map}
use Rattle.std.specs.FinMap.{get}
use Rattle.std.specs.Option.{option_map_or}
use Rattle.std.specs.Result.{result_ok}
use Rattle.records.specs.Records.{dsc_in, sidecar_in}
use Rattle.records.specs.Values.{ChangesValue}
use Rattle.rules.specs.Judgement.{component}
use Rattle.rules.specs.Suites.{claiming}
use Rattle.rules.specs.Values.{ConfigValue}
use Rattle.sums.specs.Prints.{same_print}
use Rattle.sums.specs.declared.print.Print.{Print}
use Rattle.suites.specs.Items.{item_of}
use Rattle.suites.specs.Shelves.{ShelvesValue}
use Rattle.suites.specs.Upload.{Part, UploadValue, binary_item, items_of, source_item}
use Rattle.suites.specs.declared.item.Item.{Item}
use Rattle.suites.specs.declared.key.ShelfKey.{ShelfKey}
use Rattle.suites.specs.Codenames.{codename_at}
use Rattle.output.specs.Explaining.Words.{spaced}

-- the print of an item's .dsc or package file, which is its first file
abbrev pub first_print : Item → Option Print
first_print item = option_map (λ f. f.print) (slice_get item.files 0)

-- there are two prints, and they agree
abbrev pub are_one : Option Print → Option Print → Bool
are_one (Some p) (Some q) = same_print p q
are_one p q = false

-- an item is of this version, and its .dsc or package file has this print
abbrev pub is_of : Item → (version : List ℕ) → Option Print → Bool
is_of item version print = bytes_eq item.version version && are_one (first_print item) print

-- what became of an item of this version and print, by what stands on its shelf
abbrev pub state_words : (version : List ℕ) → Option Print → Option Item → List ℕ
state_words version print None = codes "gone"
state_words version print (Some there) = if is_of there version print then codes "shown" else spaced (codes "instead") there.version

-- the line of an item of this version and print, by its shelf and the codename of its suite
abbrev pub line_at : ShelvesValue → (codename : List ℕ) → ShelfKey → (version : List ℕ) → Option Print → List ℕ
line_at shelves codename key version print =
    spaced (state_words version print (get shelves key)) (spaced codename (spaced key.«package» (spaced version key.architecture)))

-- the line of an item, by its suite's position and codename
abbrev pub item_line : ShelvesValue → ℕ → (codename : List ℕ) → Item → List ℕ
item_line shelves suite codename item =
    line_at shelves codename (record { suite = suite; kind = item.kind; «package» = item.«package»; architecture = item.architecture }) item.version (first_print item)

-- the items of an upload by prints, as a run gives them
abbrev pub given_items : UploadValue → List Item
given_items u = map item_of (items_of (λ e. e.print) u (component u.changes))

-- a line for each, the source first; none if no suite takes the upload
unfoldable pub item_lines : ConfigValue → ShelvesValue → UploadValue → List (List ℕ)
item_lines config shelves u =
    option_map_or (λ suite. map (item_line shelves suite (codename_at config.suites suite)) (given_items u)) (claiming u.changes.distribution config.suites) []

-- the line of the source that a listed file is, if its text is a .dsc
abbrev pub source_lines : ShelvesValue → ℕ → (codename : List ℕ) → ChangesValue → Part → List (List ℕ)
source_lines shelves suite codename c part =
    option_map_or (λ d. item_line shelves suite codename (item_of (source_item (λ e. e.print) c (component c) part d)) ∷ []) (result_ok (dsc_in part.1)) []

-- the line of the package that a listed file stands for, if its text is a sidecar
abbrev pub package_lines : ShelvesValue → ℕ → (codename : List ℕ) → ChangesValue → Part → List (List ℕ)
package_lines shelves suite codename c part =
    option_map_or (λ s. item_line shelves suite codename (item_of (binary_item (λ e. e.print) c (component c) part s)) ∷ []) (result_ok (sidecar_in part.1)) []
