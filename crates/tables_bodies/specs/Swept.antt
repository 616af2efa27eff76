-- What a change makes of the rows, with a sweep and without one, and whether it needs one.
use Rattle.std.specs.Prelude.{ℕ, Bool, true, not, ◌&&◌, if◌then◌else◌, List, find, is_some}
use Rattle.std.specs.List.{list_all, list_any}
use Rattle.std.specs.Option.{option_map_or}
use Rattle.rules.specs.Values.{ConfigValue}
use Rattle.suites.specs.declared.item.PoolFile.{PoolFile}
use Rattle.indices.specs.Stanzas.{file_name}
use Rattle.book.specs.declared.change.Change.{Change}
use Rattle.book.specs.declared.change.Step.{Step}
use Rattle.tables.specs.Arrivals.{is_arrival}
use Rattle.tables.specs.Files.{is_file_at}
use Rattle.tables.specs.Rows.{Tables, rows_of}
use Rattle.tables_meaning.specs.Making.{takes_file, with_written}
use Rattle.tables_meaning.specs.Sweeping.{swept}

-- The change is written, and if it is swept the bodies that nothing uses go after that.
abbrev pub with_made : Bool → ConfigValue → ℕ → Change → Tables → Tables
with_made sweeps config judged change t = if sweeps then swept (with_written config judged change t) else with_written config judged change t

-- the body has arrived under the name at the end of the path
abbrev pub has_arrived_under : Tables → List ℕ → ℕ → Bool
has_arrived_under t path body = is_some (find (λ x. is_arrival (file_name path) body x.1) t.arrivals)

-- the body of the file at the path has arrived under the file's name, if there is such a file
unfoldable pub has_arrived : Tables → List ℕ → Bool
has_arrived t path = option_map_or (λ f. has_arrived_under t path f.body) (find (is_file_at path) (rows_of t.files)) true

-- the body of each of these files that is there has arrived under the file's name
abbrev pub have_arrived : Tables → List PoolFile → Bool
have_arrived t files = list_all (λ f. has_arrived t f.path) files

-- the body of each file that is there and that the steps take away has arrived under the file's name
abbrev pub have_all_arrived : Tables → List Step → Bool
have_all_arrived t steps = list_all (λ s. have_arrived t s.plan.files_removed) steps

-- Bodies that nothing uses may be there after these steps: they take a file away, and a body may be coming, or the body of a file
-- that they take away has not arrived under the file's name. `whole` says that no body is coming.
abbrev pub needs_sweep : Tables → Bool → List Step → Bool
needs_sweep t whole steps = list_any takes_file steps && not (whole && have_all_arrived t steps)
