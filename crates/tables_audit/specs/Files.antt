-- What rows of files say beside a pool.
use Rattle.std.specs.Prelude.{◌≡◌, ◌≢◌, ℕ, Bool, List, All, None, IsTrue}
use Rattle.std.specs.List.{list_any}
use Rattle.std.specs.FinMap.{get}
use Rattle.sums.specs.declared.print.Print.{Print}
use Rattle.suites.specs.Pool.{PoolWith}
use Rattle.tables.specs.Files.{is_file_at}
use Rattle.tables.specs.Rows.{Numbered, rows_of}
use Rattle.tables.specs.declared.rows.BodyRow.{BodyRow}
use Rattle.tables.specs.declared.rows.File.{File}
use Rattle.tables_meaning.specs.Kept.{print_in}

-- The body of the file has the print that the pool has at the file's path.
abbrev pub HasPrint : PoolWith Print → Numbered BodyRow → ℕ × File → Type 0
HasPrint pool bodies f = print_in bodies f.1.body ≡ get pool f.1.path

-- some file is at the path
abbrev pub is_path : Numbered File → List ℕ → Bool
is_path files path = list_any (is_file_at path) (rows_of files)

-- The files are those of the pool.
pub record AreThose (pool : PoolWith Print) (bodies : Numbered BodyRow) (files : Numbered File) : Type 0 where
  pub prints : All (HasPrint pool bodies) files
  pub there : (path : List ℕ) → get pool path ≢ None → IsTrue (is_path files path)
