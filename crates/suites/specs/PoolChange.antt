-- What references that come and go change of the pool.
use Rattle.std.specs.Prelude.{◌≡◌, ℕ, ◌+◌, Bool, false, if◌then◌else◌, cond, List, map, filter, nat_eq, nat_le, min, Option, None, Some, is_some, T, String, string_bytes}
use Rattle.std.specs.declared.alloc.Global.{Global}
use Rattle.std.specs.BTreeMap.{BTreeMap, get_by_text}
use Rattle.std.specs.FinMap.{find, values, is_sorted}
use Rattle.sums.specs.declared.print.Print.{Print}
use Rattle.suites.specs.Counts.{count_at}
use Rattle.suites.specs.Keys.{text_order}
use Rattle.suites.specs.Pool.{files_of, pair_of}
use Rattle.suites.specs.Plan.{references}
use Rattle.suites.specs.Shelves.{ShelvesValue}
use Rattle.suites.specs.declared.item.Item.{Item}
use Rattle.suites.specs.declared.item.PoolFile.{PoolFile}
use Rattle.suites.specs.declared.key.ShelfKey.{ShelfKey}
use Rattle.suites.specs.declared.plan.Plan.{Plan}
use Rattle.suites.specs.declared.plan.Reference.{Reference}
use Rattle.suites.specs.declared.shelves.SharedFile.{SharedFile}

-- a reference's path and print
abbrev pub referred : Reference → List ℕ × Print
referred r = (r.path, r.print)

-- Files in the order of their paths: exactly those with these contents.
pub record ListsExactly (files : List PoolFile) (contents : List ℕ → Option Print) : Type 0 where
  pub in_order : T (is_sorted text_order (map pair_of files))
  pub exact : (path : List ℕ) → find text_order path (map pair_of files) ≡ contents path

-- how many references shown items have to the path
abbrev pub references_at : ShelvesValue → List ℕ → ℕ
references_at shelves path = count_at path (files_of (values shelves))

-- what the pool gains at a path: the file to which a reference comes, if there was no reference
unfoldable pub gained : ShelvesValue → List Reference → List ℕ → Option Print
gained shelves put path = cond (nat_eq (references_at shelves path) 0) (find text_order path (map referred put)) None

-- what the pool loses at a path: the file from which as many references go as there were, if no reference comes
unfoldable pub lost : ShelvesValue → List Reference → List Reference → List ℕ → Option Print
lost shelves put dropped path =
    if is_some (find text_order path (map referred put)) then None
    else cond (nat_le (references_at shelves path) (count_at path (map referred dropped))) (find text_order path (map referred dropped)) None

-- a file with one more reference, or a file of this print if there was none; the number does not pass the greatest of 64 bits
abbrev pub one_more : Option SharedFile → Print → SharedFile
one_more None print = record { print = print; references = 1 }
one_more (Some file) print = record { print = file.print; references = min (file.references + 1) 18446744073709551615 }

-- the files, given by their paths, that pass the test
abbrev pub files_where : (List ℕ → SharedFile → Bool) → List (String Global × SharedFile) → List PoolFile
files_where test files = map (λ e. record { path = string_bytes e.0; print = e.1.print }) (filter (λ e. test (string_bytes e.0) e.1) files)

-- the pool lacks the path
abbrev pub is_new : ShelvesValue → List ℕ → SharedFile → Bool
is_new shelves path file = nat_eq (references_at shelves path) 0

-- no reference comes to the path, and as many go as there are
abbrev pub has_no_use : ShelvesValue → BTreeMap (String Global) SharedFile → List ℕ → ℕ → Bool
has_no_use shelves put path dropped = if is_some (get_by_text put path) then false else nat_le (references_at shelves path) dropped

-- The plan puts and drops these items, with what that changes of the references and of the pool.
pub record IsPlanOf (shelves : ShelvesValue) (put dropped : List (ShelfKey × Item)) (plan : Plan) : Type 0 where
  pub put_are : plan.put ≡ put
  pub dropped_are : plan.dropped ≡ dropped
  pub references_put : plan.references_put ≡ references put
  pub references_dropped : plan.references_dropped ≡ references dropped
  pub added : ListsExactly plan.files_added (gained shelves (references put))
  pub removed : ListsExactly plan.files_removed (lost shelves (references put) (references dropped))
