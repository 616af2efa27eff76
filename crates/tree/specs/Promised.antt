-- What is promised of the steps of an export, whatever tree it begins with and whatever files the new indices name. `there` has what is
-- known to be there, `files` are those of the pool, and `left` has the paths that the export before left.
use Rattle.std.specs.Prelude.{◌≡◌, ◌⊎◌, ℕ, List, Contains, Option, None, Some, false}
use Rattle.sums.specs.declared.print.Print.{Print}
use Rattle.suites.specs.declared.item.PoolFile.{PoolFile}
use Rattle.tree.specs.Tree.{Tree, AreShown, AtEach, IsBegun, IsFirm, IsFoundFor, IsWholeFor, is_among, kept_back, left_by}
use Rattle.tree.specs.declared.steps.Step.{Step}

-- At no moment does an index name a file that is not there: neither an index shown at that moment, nor one shown first.
abbrev pub KeepsWhole : (List ℕ → Option Print) → List PoolFile → List (List ℕ) → List Step → Type 0
KeepsWhole there files left steps = (tree : Tree) (named : ℕ → List PoolFile) → IsBegun there left tree → AreShown files named → IsFirm files tree
    → AtEach named (IsWholeFor tree) tree steps

-- Wherever the export is stopped, the next one may begin. It may know of nothing that is there, and be given the same paths to remove.
abbrev pub GoesOn : (List ℕ → Option Print) → List PoolFile → List (List ℕ) → List Step → Type 0
GoesOn there files left steps = (tree : Tree) (named : ℕ → List PoolFile) → IsBegun there left tree → AreShown files named → IsFirm files tree
    → AtEach named (IsBegun (λ path. None) (kept_back files left)) tree steps

-- Even if a path gets other contents than an index names, some file is there at each moment.
abbrev pub KeepsFound : (List ℕ → Option Print) → List PoolFile → List (List ℕ) → List Step → Type 0
KeepsFound there files left steps = (tree : Tree) (named : ℕ → List PoolFile) → IsBegun there left tree → AreShown files named
    → AtEach named (IsFoundFor tree) tree steps

-- In the end each file of the pool is there.
abbrev pub PlacesAll : (List ℕ → Option Print) → List PoolFile → List (List ℕ) → List Step → Type 0
PlacesAll there files left steps = (tree : Tree) (named : ℕ → List PoolFile) → IsBegun there left tree
    → (f : PoolFile) → Contains files f → (left_by named tree steps).pool f.path ≡ Some f.print

-- In the end these suites show what they are to show, as do other suites that showed it before.
abbrev pub ShowsAll : List ℕ → List Step → Type 0
ShowsAll suites steps = (tree : Tree) (named : ℕ → List PoolFile) (suite : ℕ) → Contains suites suite ⊎ (tree.named suite ≡ named suite)
    → (left_by named tree steps).named suite ≡ named suite

-- What was left before and is not a file of the pool is gone in the end.
abbrev pub RemovesLeft : List PoolFile → List (List ℕ) → List Step → Type 0
RemovesLeft files left steps = (tree : Tree) (named : ℕ → List PoolFile) (path : List ℕ) → Contains left path
    → is_among files path ≡ false → (left_by named tree steps).pool path ≡ None

-- What was neither left before nor is of the pool is never touched.
abbrev pub TouchesNoOther : List PoolFile → List (List ℕ) → List Step → Type 0
TouchesNoOther files left steps = (tree : Tree) (named : ℕ → List PoolFile) (path : List ℕ) → (Contains left path → ⊥)
    → is_among files path ≡ false → AtEach named (λ now. now.pool path ≡ tree.pool path) tree steps
