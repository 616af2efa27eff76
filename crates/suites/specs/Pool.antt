-- The files of a pool and where they stand (a rule of this archive).
use Rattle.std.specs.Prelude.{◌≡◌, ℕ, nat_lt, nat_le, nat_eq, Bool, ◌&&◌, if◌then◌else◌, List, ◌++◌, length, take, slice_index, map, codes, Contains}
use Rattle.std.specs.List.{flat_map, starts_with}
use Rattle.std.specs.FinMap.{FinMap, from_entries}
use Rattle.sums.specs.declared.print.Print.{Print}
use Rattle.suites.specs.Keys.{text_order}
use Rattle.suites.specs.Items.{FileWith, ItemWith}
use Rattle.suites.specs.declared.item.Item.{Item}
use Rattle.suites.specs.declared.item.PoolFile.{PoolFile}

-- A byte that continues a character (UTF-8).
abbrev pub is_continuation : ℕ → Bool
is_continuation c = nat_le 128 c && nat_lt c 192

-- the first n bytes; the whole text if these would end within a character
unfoldable pub front_of : ℕ → List ℕ → List ℕ
front_of n text = if is_continuation (slice_index text n) then text else take n text

-- the folder of a source within its component: the first letter of its name, or the first four letters of a library's name
unfoldable pub prefix_of : List ℕ → List ℕ
prefix_of source =
    if starts_with nat_eq source (codes "lib") && nat_lt 3 (length source) then front_of 4 source else front_of 1 source

-- the folder of a source's files, `pool/COMPONENT/PREFIX/SOURCE`
unfoldable pub directory_of : List ℕ → List ℕ → List ℕ
directory_of component source =
    codes "pool/" ++ component ++ codes "/" ++ prefix_of source ++ codes "/" ++ source

-- the path of a source's file, `pool/COMPONENT/PREFIX/SOURCE/FILE`
unfoldable pub pool_path : List ℕ → List ℕ → List ℕ → List ℕ
pool_path component source file = directory_of component source ++ codes "/" ++ file

-- A pool of contents: the contents at each path.
abbrev pub PoolWith : Type 0 → Type 0
PoolWith C = FinMap text_order C

-- a path and the contents there
abbrev pub pair_of : PoolFile → List ℕ × Print
pair_of f = (f.path, f.print)

-- the files of some items
abbrev pub files_of : List Item → List (List ℕ × Print)
files_of items = flat_map (λ item. map pair_of item.files) items

abbrev pub files_with : {C : Type 0} → List (ItemWith C) → List (List ℕ × C)
files_with items = flat_map (λ item. map (λ f. (f.path, f.contents)) item.files) items

-- the pool of these files
abbrev pub pool_of : {C : Type 0} → List (List ℕ × C) → PoolWith C
pool_of files = from_entries files

-- at each path the same contents, however often the path occurs
abbrev pub AreAgreed : {C : Type 0} → List (List ℕ × C) → Type 0
AreAgreed {C} files = (path : List ℕ) (a b : C) → Contains files (path, a) → Contains files (path, b) → a ≡ b
