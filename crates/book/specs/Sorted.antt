-- A list put in order.
use Rattle.std.specs.Prelude.{if◌then◌else◌, List, [], ◌∷◌}
use Rattle.std.specs.Ordering.{is_gt}
use Rattle.std.specs.declared.cmp.Ordering.{Ordering}

-- one more in its place: before the first that it does not come after
abbrev pub put_by : {X : Type 0} → (X → X → Ordering) → X → List X → List X
put_by order x [] = x ∷ []
put_by order x (y ∷ ys) = if is_gt (order x y) then y ∷ put_by order x ys else x ∷ y ∷ ys

-- each in its place, the last one first; so those that tie keep the order that they had
abbrev pub sorted_by : {X : Type 0} → (X → X → Ordering) → List X → List X
sorted_by order [] = []
sorted_by order (x ∷ xs) = put_by order x (sorted_by order xs)
