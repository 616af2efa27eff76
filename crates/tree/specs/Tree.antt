-- A tree of files as its readers find it, and what the steps of an export make of it.
use Rattle.std.specs.Prelude.{◌≡◌, ◌≢◌, ℕ, nat_eq, Bool, true, false, not, if◌then◌else◌, List, [], ◌∷◌, filter, bytes_eq, Option, Some, None, is_some, is_none, Contains}
use Rattle.std.specs.Option.{option_map_or}
use Rattle.std.specs.List.{list_any}
use Rattle.sums.specs.Prints.{same_print}
use Rattle.sums.specs.declared.print.Print.{Print}
use Rattle.suites.specs.declared.item.PoolFile.{PoolFile}
use Rattle.tree.specs.declared.steps.Step.{Step}
use Rattle.tree.specs.declared.steps.Step.TheVariants.{Write, Show, Remove}

-- The contents at each path of the pool, by their prints, and for each suite, by its position in the configuration, the files
-- that its indices name.
pub record Tree : Type 0 where
  pub pool : List ℕ → Option Print
  pub named : ℕ → List PoolFile

-- ---- what is asked of a tree

-- Each file that an index names is there with the contents that it says; so is each that was named in the first tree.
pub record IsWholeFor (first tree : Tree) : Type 0 where
  pub now : (suite : ℕ) (f : PoolFile) → Contains (tree.named suite) f → tree.pool f.path ≡ Some f.print
  pub before : (suite : ℕ) (f : PoolFile) → Contains (first.named suite) f → tree.pool f.path ≡ Some f.print

-- At each path that an index names some file is there, whatever its contents; so it is at each path named in the first tree.
pub record IsFoundFor (first tree : Tree) : Type 0 where
  pub now : (suite : ℕ) (f : PoolFile) → Contains (tree.named suite) f → is_some (tree.pool f.path) ≡ true
  pub before : (suite : ℕ) (f : PoolFile) → Contains (first.named suite) f → is_some (tree.pool f.path) ≡ true

-- ---- steps

-- the tree after a step, if the new indices of suites name these files
abbrev pub made : (ℕ → List PoolFile) → Tree → Step → Tree
made new tree (Write f) = record { pool = λ path. if bytes_eq path f.path then Some f.print else tree.pool path; named = tree.named }
made new tree (Show suite) = record { pool = tree.pool; named = λ s. if nat_eq s suite then new s else tree.named s }
made new tree (Remove gone) = record { pool = λ path. if bytes_eq path gone then None else tree.pool path; named = tree.named }

-- the tree after all of the steps
abbrev pub left_by : (ℕ → List PoolFile) → Tree → List Step → Tree
left_by new tree [] = tree
left_by new tree (step ∷ steps) = left_by new (made new tree step) steps

-- `P` holds before the first step and after each, and so wherever an export is stopped.
abbrev pub AtEach : (ℕ → List PoolFile) → (Tree → Type 0) → Tree → List Step → Type 0
AtEach new P tree [] = P tree
AtEach new P tree (step ∷ steps) = P tree × AtEach new P (made new tree step) steps

-- ---- what an export begins with

-- one of the files stands at the path
abbrev pub is_among : List PoolFile → List ℕ → Bool
is_among files path = list_any (λ f. bytes_eq f.path path) files

-- what was left before and is not a file of the pool now
abbrev pub kept_back : List PoolFile → List (List ℕ) → List (List ℕ)
kept_back files left = filter (λ path. not (is_among files path)) left

-- What is known to be there is there; no index names what was left; and each file that an index names is there.
pub record IsBegun (there : List ℕ → Option Print) (left : List (List ℕ)) (tree : Tree) : Type 0 where
  pub known : (path : List ℕ) (print : Print) → there path ≡ Some print → tree.pool path ≡ Some print
  pub unnamed : (suite : ℕ) (f : PoolFile) → Contains (tree.named suite) f → Contains left f.path → ⊥
  pub whole : (suite : ℕ) (f : PoolFile) → Contains (tree.named suite) f → tree.pool f.path ≡ Some f.print

-- the new indices name only files of the pool
abbrev pub AreShown : List PoolFile → (ℕ → List PoolFile) → Type 0
AreShown files new = (suite : ℕ) (f : PoolFile) → Contains (new suite) f → Contains files f

-- No path gets other contents than an index names.
abbrev pub IsFirm : List PoolFile → Tree → Type 0
IsFirm files tree = (suite : ℕ) (f g : PoolFile) → Contains (tree.named suite) f → Contains files g → f.path ≡ g.path → f.print ≡ g.print

-- ---- what is written

unfoldable pub is_new : (List ℕ → Option Print) → PoolFile → Bool
is_new there f = is_none (there f.path)

unfoldable pub is_other : (List ℕ → Option Print) → PoolFile → Bool
is_other there f = option_map_or (λ print. not (same_print print f.print)) (there f.path) false

-- no step writes what is known to be there
abbrev pub IsNeeded : (List ℕ → Option Print) → List Step → Type 0
IsNeeded there steps = (f : PoolFile) → Contains steps (Write f) → there f.path ≢ Some f.print
