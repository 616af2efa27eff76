-- Lists in which a relation holds between each two elements: by their places, or between each element and the later
-- ones.
use Rattle.std.proofs.Common.{zero, suc, List, [], ◌∷◌, AllPairs, arith}
use Rattle.std.proofs.lemmas.List.Elements.{recursion_from_All, All-from_recursion}
use Rattle.sqlite_trees.specs.Tree.{IsAscending}

-- a relation that holds by places holds between each element and the later ones
pub ascending_from_pairs : {X : Type 0} (R : X → X → Type 0) (xs : List X) → AllPairs R xs → IsAscending R xs
ascending_from_pairs R [] h = tt
ascending_from_pairs R (x ∷ xs) h = (
  recursion_from_All (R x) xs (λ k d lt. h zero (suc k) d (omega arith) (omega arith)),
  ascending_from_pairs R xs (λ i j d lt within. h (suc i) (suc j) d (omega arith) (omega arith)),
)

-- a relation that holds between each element and the later ones holds by places
pub pairs_from_ascending : {X : Type 0} (R : X → X → Type 0) (xs : List X) → IsAscending R xs → AllPairs R xs
pairs_from_ascending R [] up i j d lt within = absurd (omega arith)
pairs_from_ascending R (x ∷ xs) up zero zero d lt within = absurd (omega arith)
pairs_from_ascending R (x ∷ xs) up zero (suc j) d lt within = All-from_recursion (R x) xs up.0 j d (omega arith)
pairs_from_ascending R (x ∷ xs) up (suc i) zero d lt within = absurd (omega arith)
pairs_from_ascending R (x ∷ xs) up (suc i) (suc j) d lt within = pairs_from_ascending R xs up.1 i j d (omega arith) (omega arith)
