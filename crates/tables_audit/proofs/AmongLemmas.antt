-- Whether something is among rows, which are gone over one by one.
use Rattle.std.proofs.Common.{◌≡◌, ◌↔◌, ◌⊎◌, ◌<◌, ℕ, ◌+◌, inl, inr, List, ◌∷◌, drop, length, get_or, sym, ap, subst, ◌∙◌}
use Rattle.std.specs.Prelude.{All, Contains}
use Rattle.std.proofs.lemmas.List.{drop_more}
use Rattle.std.proofs.lemmas.List.Elements.{All-cons, All-from_recursion, recursion_from_All}
use Rattle.sums.proofs.Members.{here, there, which}

-- g gives what f makes of each element
module _ {X Y : Type 0} (f : X → Y) (g : List X → List Y) (one : (x : X) (xs : List X) → g (x ∷ xs) ≡ f x ∷ g xs) (xs : List X) (i : ℕ) (x : X) (within : i < length xs) (is : x ≡ get_or xs i x) where
  from_place : g (drop i xs) ≡ f x ∷ g (drop (i + 1) xs)
  from_place = ap g (drop_more xs i x within ∙ ap (λ y. y ∷ drop (i + 1) xs) (sym is)) ∙ one x (drop (i + 1) xs)

  -- something is among those from a place on if it is the one there, or among the later ones
  pub among_next : (e : Y) → Contains (g (drop i xs)) e ↔ ((f x ≡ e) ⊎ Contains (g (drop (i + 1) xs)) e)
  among_next e = (
    λ at. which (f x) e (g (drop (i + 1) xs)) (subst (λ es. Contains es e) from_place at),
    λ h. subst (λ es. Contains es e) (sym from_place)
        (elim h [
          | inl own ↦ subst (λ y. Contains (f x ∷ g (drop (i + 1) xs)) y) own (here (f x) (g (drop (i + 1) xs)))
          | inr later ↦ there (f x) e (g (drop (i + 1) xs)) later
        ]),
  )

  -- all from a place on are so if the one there is so, and the later ones
  pub all_next : (C : Y → Type 0) → All C (g (drop i xs)) ↔ (C (f x) × All C (g (drop (i + 1) xs)))
  all_next C = (
    λ all. let parts = recursion_from_All C (f x ∷ g (drop (i + 1) xs)) (subst (All C) from_place all) in (parts.0, All-from_recursion C (g (drop (i + 1) xs)) parts.1),
    λ both. subst (All C) (sym from_place) (All-cons C (f x) (g (drop (i + 1) xs)) both.0 both.1),
  )
