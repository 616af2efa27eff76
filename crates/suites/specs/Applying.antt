-- How a plan is made: which items come and go, and what a reference more or less makes of the file at its path.
use Rattle.std.specs.Prelude.{◌≡◌, ℕ, ◌+◌, ◌-◌, nat_lt, Bool, not, cond, if◌then◌else◌, List, map, filter, bytes_eq, Option, Some, None, is_some}
use Rattle.std.specs.FinMap.{contains_key, find}
use Rattle.sums.specs.declared.print.Print.{Print}
use Rattle.suites.specs.Keys.{key_order}
use Rattle.suites.specs.Shelves.{ShelvesValue}
use Rattle.suites.specs.declared.item.Item.{Item}
use Rattle.suites.specs.declared.item.PoolFile.{PoolFile}
use Rattle.suites.specs.declared.key.ShelfKey.{ShelfKey}
use Rattle.suites.specs.declared.plan.Reference.{Reference}
use Rattle.suites.specs.declared.shelves.Arrivals.{Arrivals}
use Rattle.suites.specs.declared.shelves.SharedFile.{SharedFile}

-- whether what is put comes to a shelf that shows nothing, or in the place of another item
abbrev pub is_new : ShelvesValue → ShelfKey × Item → Bool
is_new shelves e = not (contains_key shelves e.0)

abbrev pub is_replacing : ShelvesValue → ShelfKey × Item → Bool
is_replacing shelves e = contains_key shelves e.0

pub record AreArrivals (shelves : ShelvesValue) (put : List (ShelfKey × Item)) (arrivals : Arrivals) : Type 0 where
  pub new : arrivals.new.items ≡ filter (is_new shelves) put
  pub keys : arrivals.new_keys.items ≡ map (λ e. e.0) arrivals.new.items
  pub replacing : arrivals.replacing.items ≡ filter (is_replacing shelves) put

-- the dropped items on whose shelves nothing is put
abbrev pub leaving : List (ShelfKey × Item) → List (ShelfKey × Item) → List (ShelfKey × Item)
leaving put dropped = filter (λ e. not (is_some (find key_order e.0 put))) dropped

-- what is kept at a path once a reference has come: one more, or a file of one reference
abbrev pub one_more : Print → Option SharedFile → Option SharedFile
one_more print None = Some (record { print = print; references = 1 })
one_more print (Some file) = Some (record { print = file.print; references = file.references + 1 })

-- what is kept once one has gone: one less, or no file after the last
abbrev pub one_less : Option SharedFile → Option SharedFile
one_less None = None
one_less (Some file) = if nat_lt 1 file.references then Some (record { print = file.print; references = file.references - 1 }) else None

abbrev pub printed_as : Print → Option SharedFile → Option SharedFile
printed_as print None = None
printed_as print (Some file) = Some (record { print = print; references = file.references })

-- what is kept at a path once a reference or a file of an item has come or gone: it changes only if the path is the same
abbrev pub with_reference : List ℕ → Option SharedFile → Reference → Option SharedFile
with_reference path shared r = cond (bytes_eq r.path path) (one_more r.print shared) shared

abbrev pub without_reference : List ℕ → Option SharedFile → Reference → Option SharedFile
without_reference path shared r = cond (bytes_eq r.path path) (one_less shared) shared

abbrev pub with_file : List ℕ → Option SharedFile → PoolFile → Option SharedFile
with_file path shared file = cond (bytes_eq file.path path) (one_more file.print shared) shared

abbrev pub without_file : List ℕ → Option SharedFile → PoolFile → Option SharedFile
without_file path shared file = cond (bytes_eq file.path path) (one_less shared) shared

abbrev pub with_print : List ℕ → Option SharedFile → PoolFile → Option SharedFile
with_print path shared file = cond (bytes_eq file.path path) (printed_as file.print shared) shared
