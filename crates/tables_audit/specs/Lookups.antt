-- Rows that are looked up by a number: their own, or that of what they belong to.
use Rattle.std.specs.Prelude.{ℕ, nat_eq, nat_le, Bool, true, ◌&&◌, List, [], ◌∷◌, filter}

-- the rows of this number
abbrev pub with_key : {X : Type 0} → (X → ℕ) → ℕ → List X → List X
with_key key id rows = filter (λ x. nat_eq (key x) id) rows

-- no row's number is below that of the row before it, nor the first below this one
abbrev pub rise_from : {X : Type 0} → (X → ℕ) → ℕ → List X → Bool
rise_from key low [] = true
rise_from key low (x ∷ xs) = nat_le low (key x) && rise_from key (key x) xs
