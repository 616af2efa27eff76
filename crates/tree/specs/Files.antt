-- The files that an export hands out, and which of them a suite names.
use Rattle.std.specs.Prelude.{ℕ, nat_eq, List, map, filter, String, string_bytes}
use Rattle.std.specs.declared.alloc.Global.{Global}
use Rattle.std.specs.BTreeMap.{BTreeMap}
use Rattle.std.specs.FinMap.{entries}
use Rattle.std.specs.List.{flat_map}
use Rattle.sums.specs.declared.print.Print.{Print}
use Rattle.suites.specs.Shelves.{ShelvesValue, pool}
use Rattle.suites.specs.declared.item.PoolFile.{PoolFile}
use Rattle.suites.specs.declared.shelves.SharedFile.{SharedFile}

-- a path and the print of what stands there, as a file
abbrev pub file_at : List ℕ × Print → PoolFile
file_at e = record { path = e.0; print = e.1 }

-- the files of the pool, each once, in the order of their paths
unfoldable pub pool_files : ShelvesValue → List PoolFile
pool_files shelves = map file_at (entries (pool shelves))

-- the files of the program's map from paths
abbrev pub files_in : BTreeMap (String Global) SharedFile → List PoolFile
files_in files = map (λ e. record { path = string_bytes e.0; print = e.1.print }) files.entries

-- the files that the indices of a suite name: those of the items that it shows
abbrev pub named_by : ShelvesValue → ℕ → List PoolFile
named_by shelves suite = flat_map (λ e. e.1.files) (filter (λ e. nat_eq e.0.suite suite) (entries shelves))
