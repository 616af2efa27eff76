-- Members of lists that are filtered, put side by side or joined.
use Rattle.std.proofs.Common.{◌≡◌, Bool, true, false, cond, List, [], ◌∷◌, filter, zip, flat_map, Option, Some, None, option_to_list, refl, sym, ap, ◌∙◌, subst, inl, inr, filter_map}
use Rattle.std.specs.Prelude.{Contains}
use Rattle.std.proofs.lemmas.List.Elements.{Contains-append_cases}
use Rattle.std.specs.List.{cons_option}
use Rattle.sums.proofs.Members.{here, there, which, no_member}

kept_or_not : {X : Type 0} (p : X → Bool) (x : X) (y : X) (xs : List X) (b : Bool) → p x ≡ b → Contains (cond b (x ∷ filter p xs) (filter p xs)) y
    → (Contains (filter p xs) y → Contains xs y × (p y ≡ true)) → Contains (x ∷ xs) y × (p y ≡ true)
kept_or_not p x y xs true t h more = elim (which x y (filter p xs) h) [
  | inl same ↦ (subst (λ z. Contains (x ∷ xs) z) same (here x xs), ap p (sym same) ∙ t)
  | inr rest ↦ let m = more rest in (there x y xs m.0, m.1)
]
kept_or_not p x y xs false t h more = let m = more h in (there x y xs m.0, m.1)

-- a member of what is kept is a member that passes
pub from_filter : {X : Type 0} (p : X → Bool) (y : X) (xs : List X) → Contains (filter p xs) y → Contains xs y × (p y ≡ true)
from_filter p y [] h = no_member y h
from_filter p y (x ∷ xs) h = kept_or_not p x y xs (p x) refl h (from_filter p y xs)

pub kept : {X : Type 0} (p : X → Bool) (x y : X) (xs : List X) (b : Bool) → p x ≡ b → p y ≡ true → Contains (x ∷ xs) y
    → (Contains xs y → Contains (filter p xs) y) → Contains (cond b (x ∷ filter p xs) (filter p xs)) y
kept p x y xs true t e h more = elim (which x y xs h) [
  | inl same ↦ subst (λ z. Contains (x ∷ filter p xs) z) same (here x (filter p xs))
  | inr rest ↦ there x y (filter p xs) (more rest)
]
kept p x y xs false t e h more = elim (which x y xs h) [
  | inl same ↦ cc (sym t ∙ (ap p same ∙ e))
  | inr rest ↦ more rest
]

-- a member that passes is kept
pub to_filter : {X : Type 0} (p : X → Bool) (y : X) (xs : List X) → Contains xs y → p y ≡ true → Contains (filter p xs) y
to_filter p y [] h e = no_member y h
to_filter p y (x ∷ xs) h e = kept p x y xs (p x) refl e h (λ r. to_filter p y xs r e)

-- the first half of a member of two lists side by side
pub from_zip : {A B : Type 0} (p : A × B) (xs : List A) (ys : List B) → Contains (zip xs ys) p → Contains xs p.0
from_zip p [] ys h = no_member p h
from_zip p (x ∷ xs) [] h = no_member p h
from_zip p (x ∷ xs) (y ∷ ys) h = elim (which (x, y) p (zip xs ys) h) [
  | inl same ↦ subst (λ z. Contains (x ∷ xs) z) (ap (λ q. q.0) same) (here x xs)
  | inr rest ↦ there x p.0 xs (from_zip p xs ys rest)
]

-- a member of lists joined is a member of one of them
pub from_flat_map : {X A : Type 0} (f : X → List A) (y : A) (xs : List X) → Contains (flat_map f xs) y → (x : X) × Contains xs x × Contains (f x) y
from_flat_map f y [] h = no_member y h
from_flat_map f y (x ∷ xs) h = elim (Contains-append_cases (f x) (flat_map f xs) y h) [
  | inl p ↦ (x, here x xs, p)
  | inr q ↦ let r = from_flat_map f y xs q in (r.0, there x r.0 xs r.1, r.2)
]

-- what a member of the list makes
pub from_filter_map : {X Y : Type 0} (f : X → Option Y) (y : Y) (xs : List X) → Contains (filter_map f xs) y → (x : X) × Contains xs x × (f x ≡ Some y)
from_filter_map f y [] h = no_member y h
from_filter_map {X} {Y} f y (x ∷ xs) h = by_case (f x) refl h (from_filter_map f y xs)
  where
    by_case : (o : Option Y) → f x ≡ o → Contains (cons_option o (filter_map f xs)) y → (Contains (filter_map f xs) y → (z : X) × Contains xs z × (f z ≡ Some y))
        → (z : X) × Contains (x ∷ xs) z × (f z ≡ Some y)
    by_case None e h more = let m = more h in (m.0, there x m.0 xs m.1, m.2)
    by_case (Some z) e h more = elim (which z y (filter_map f xs) h) [
      | inl same ↦ (x, here x xs, e ∙ ap Some same)
      | inr rest ↦ let m = more rest in (m.0, there x m.0 xs m.1, m.2)
    ]

-- the one member of what an option holds
pub only : {X : Type 0} (o : Option X) (x : X) → Contains (option_to_list o) x → o ≡ Some x
only None x h = no_member x h
only (Some y) x h = elim (which y x [] h) [
  | inl same ↦ ap Some same
  | inr none ↦ no_member x none
]
