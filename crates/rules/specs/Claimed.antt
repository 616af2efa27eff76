-- The set of the distribution names claimed so far.
use Rattle.std.specs.Prelude.{ℕ, Bool, List}
use Rattle.std.specs.Borrow.{Bor}
use Rattle.std.specs.BTreeSet.{BTreeSet, contains_by}
use Rattle.std.specs.Cmp.Lexicographic.{slice_cmp}
use Rattle.std.specs.Ordering.{nat_cmp}

-- the set has the name
abbrev pub holds : BTreeSet (Bor (List ℕ)) → List ℕ → Bool
holds claimed name = contains_by (λ (k : Bor (List ℕ)). slice_cmp nat_cmp name k.now) claimed
