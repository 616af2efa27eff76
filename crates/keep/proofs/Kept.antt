-- A filtered list, one element more.
use Rattle.std.proofs.Common.{◌≡◌, Bool, true, false, cond, List, [], ◌∷◌, ◌++◌, map, filter, ap, sym}

pub kept_more : {X Y : Type 0} (f : X → Y) (p : X → Bool) (xs : List X) (x : X) → p x ≡ true
    → map f (filter p xs) ++ f x ∷ [] ≡ map f (filter p (xs ++ x ∷ []))
kept_more f p [] x e = ap (λ b. map f (cond b (x ∷ []) [])) (sym e)
kept_more f p (y ∷ ys) x e =
    elim (p y) as (λ b. map f (cond b (y ∷ filter p ys) (filter p ys)) ++ f x ∷ [] ≡ map f (cond b (y ∷ filter p (ys ++ x ∷ [])) (filter p (ys ++ x ∷ [])))) [
      | true ↦ ap (λ zs. f y ∷ zs) (kept_more f p ys x e)
      | false ↦ kept_more f p ys x e
    ]

pub left_more : {X Y : Type 0} (f : X → Y) (p : X → Bool) (xs : List X) (x : X) → p x ≡ false
    → map f (filter p xs) ≡ map f (filter p (xs ++ x ∷ []))
left_more f p [] x e = ap (λ b. map f (cond b (x ∷ []) [])) (sym e)
left_more f p (y ∷ ys) x e =
    elim (p y) as (λ b. map f (cond b (y ∷ filter p ys) (filter p ys)) ≡ map f (cond b (y ∷ filter p (ys ++ x ∷ [])) (filter p (ys ++ x ∷ [])))) [
      | true ↦ ap (λ zs. f y ∷ zs) (left_more f p ys x e)
      | false ↦ left_more f p ys x e
    ]
