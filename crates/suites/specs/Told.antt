-- What records say of items: an item is as its paragraph says, and its suite keeps it.
use Rattle.std.specs.Prelude.{◌≡◌, ℕ, Bool, true, false, ◌&&◌, List, [], ◌∷◌, ◌++◌, map, codes, slice_get, Ok, All}
use Rattle.std.specs.Option.{option_map_or}
use Rattle.std.specs.FinMap.{entries}
use Rattle.vers.specs.Syntax.{without_epoch}
use Rattle.records.specs.Values.{DscValue, SidecarValue}
use Rattle.records.specs.Records.{dsc_in, sidecar_in}
use Rattle.rules.specs.Suites.{keeps_architecture, keeps_component}
use Rattle.rules.specs.declared.suite.Suite.{Suite}
use Rattle.sums.specs.Prints.{print as print_of}
use Rattle.sums.specs.declared.entries.Entry.{Entry}
use Rattle.suites.specs.Pool.{pool_path}
use Rattle.suites.specs.Shelves.{ShelvesValue}
use Rattle.suites.specs.Verdict.{dsc_file}
use Rattle.suites.specs.declared.item.Item.{Item}
use Rattle.suites.specs.declared.item.PoolFile.{PoolFile}
use Rattle.suites.specs.declared.key.Kind.{Kind}
use Rattle.suites.specs.declared.key.Kind.TheVariants.{Source, Binary}
use Rattle.suites.specs.declared.key.ShelfKey.{ShelfKey}

-- the name of a package file by the fields of its sidecar, with the version without its epoch (Policy 5.6.12)
abbrev pub deb_file : SidecarValue → List ℕ
deb_file s = s.name ++ codes "_" ++ without_epoch s.version ++ codes "_" ++ s.architecture ++ codes ".deb"

-- the path in the pool of a file of an item
abbrev pub path_in : Item → List ℕ → List ℕ
path_in item name = pool_path item.component item.source name

-- a file that a .dsc lists
abbrev pub listed_file : Item → Entry → PoolFile
listed_file item e = record { path = path_in item e.name; print = e.print }

-- The item is the source of this .dsc, which its paragraph is: its files are the .dsc and all that it lists.
pub record IsSourceOf (item : Item) (d : DscValue) : Type 0 where
  pub paragraph : dsc_in item.paragraph ≡ Ok d
  pub «package» : item.«package» ≡ d.source
  pub source : item.source ≡ d.source
  pub architecture : item.architecture ≡ codes "source"
  pub version : item.version ≡ d.version
  pub files : item.files ≡ record { path = path_in item (dsc_file d); print = print_of item.paragraph } ∷ map (listed_file item) d.entries

-- The item is the package of this sidecar, which its paragraph is: its file is the package file.
pub record IsBinaryOf (item : Item) (s : SidecarValue) : Type 0 where
  pub paragraph : sidecar_in item.paragraph ≡ Ok s
  pub «package» : item.«package» ≡ s.name
  pub source : item.source ≡ s.source
  pub architecture : item.architecture ≡ s.architecture
  pub version : item.version ≡ s.version
  pub files : map (λ f. f.path) item.files ≡ path_in item (deb_file s) ∷ []

-- the item is as its paragraph says
abbrev pub IsToldAs : Kind → Item → Type 0
IsToldAs Source item = (d : DscValue) × IsSourceOf item d
IsToldAs Binary item = (s : SidecarValue) × IsBinaryOf item s

abbrev pub IsTold : Item → Type 0
IsTold item = IsToldAs item.kind item

-- the suite where the item stands is there, and keeps its component and its architecture
unfoldable pub is_kept_by : List Suite → ShelfKey × Item → Bool
is_kept_by suites e = option_map_or (λ s. keeps_component s e.1.component && keeps_architecture s e.1.architecture) (slice_get suites e.0.suite) false

-- Each item that the suites show is as its paragraph says, and its suite keeps it.
pub record AreTold (suites : List Suite) (shelves : ShelvesValue) : Type 0 where
  pub told : All (λ e. IsTold e.1) (entries shelves)
  pub kept : All (λ e. is_kept_by suites e ≡ true) (entries shelves)
