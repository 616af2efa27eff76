-- What the program keeps of the pool: at each path the print, and how many references items have to it.
use Rattle.std.specs.Prelude.{◌≡◌, ℕ, List, length, filter, bytes_eq, Option, String, string_bytes}
use Rattle.std.specs.declared.alloc.Global.{Global}
use Rattle.std.specs.Option.{option_map}
use Rattle.std.specs.FinMap.{find, values}
use Rattle.std.specs.BTreeMap.{BTreeMap, get_by}
use Rattle.sums.specs.declared.print.Print.{Print}
use Rattle.suites.specs.Keys.{text_order}
use Rattle.suites.specs.Pool.{files_of}
use Rattle.suites.specs.Shelves.{ShelvesValue}
use Rattle.suites.specs.declared.shelves.SharedFile.{SharedFile}

-- how many of the files stand at the path
unfoldable pub count_at : List ℕ → List (List ℕ × Print) → ℕ
count_at path files = length (filter (λ f. bytes_eq f.0 path) files)

-- the print at the path and the number of references; nothing if no item has a file there
unfoldable pub shared_at : List ℕ → List (List ℕ × Print) → Option SharedFile
shared_at path files =
    option_map (λ print. record { print = print; references = count_at path files }) (find text_order path files)

-- The program's pool has exactly the paths of the files of the shown items, each with its print and its references.
abbrev pub Counts : BTreeMap (String Global) SharedFile → ShelvesValue → Type 0
Counts shared shelves = (path : List ℕ) → get_by (λ key. text_order path (string_bytes key)) shared ≡ shared_at path (files_of (values shelves))
