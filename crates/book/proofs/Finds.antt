-- What a search finds.
use Rattle.std.proofs.Common.{◌≡◌, Bool, true, false, ◌||◌, List, [], ◌∷◌, Contains, find, refl, subst, Option, Some, None, is_some, option_copied, cond, Bor}
use Rattle.std.specs.List.{list_any}
use Rattle.std.specs.Option.{option_or, option_map}
use Rattle.std.proofs.lemmas.Option.{same_Some}
use Rattle.sums.proofs.Members.{here, there}

pub is_some_of_find : {X : Type 0} (p : X → Bool) (xs : List X) → is_some (find p xs) ≡ list_any p xs
is_some_of_find p [] = refl
is_some_of_find p (x ∷ xs) = elim (p x) as (λ b. is_some (cond b (Some x) (find p xs)) ≡ b || list_any p xs) [
  | true ↦ refl
  | false ↦ is_some_of_find p xs
]

pub is_some_copied : {X : Type 0} (o : Option (Bor X)) → is_some o ≡ is_some (option_copied o)
is_some_copied None = refl
is_some_copied (Some x) = refl

pub none_is : {X : Type 0} (o : Option X) → is_some o ≡ false → o ≡ None
none_is None e = refl
none_is (Some x) e = cc

-- what is mapped to nothing is nothing
pub none_of_map : {X Y : Type 0} (f : X → Y) (o : Option X) → option_map f o ≡ None → o ≡ None
none_of_map f None e = refl
none_of_map f (Some x) e = cc

-- what is mapped to something is kept before any other
pub some_kept : {X Y : Type 0} (f : X → Y) (o other : Option X) → is_some (option_map f o) ≡ true → o ≡ option_or o other
some_kept f None other e = cc
some_kept f (Some x) other e = refl

-- ---- what is found

-- it is one of the list
pub found_in : {X : Type 0} (p : X → Bool) (xs : List X) (x : X) → find p xs ≡ Some x → Contains xs x
found_in p [] x e = cc
found_in p (y ∷ ys) x e = go (p y) (found_in p ys x) e
  where
    go : (b : Bool) → (find p ys ≡ Some x → Contains ys x) → cond b (Some y) (find p ys) ≡ Some x → Contains (y ∷ ys) x
    go true more f = subst (Contains (y ∷ ys)) (same_Some y x f) (here y ys)
    go false more f = there y x ys (more f)

-- it passes
pub found_passes : {X : Type 0} (p : X → Bool) (xs : List X) (x : X) → find p xs ≡ Some x → p x ≡ true
found_passes p [] x e = cc
found_passes p (y ∷ ys) x e = go (p y) refl (found_passes p ys x) e
  where
    go : (b : Bool) → p y ≡ b → (find p ys ≡ Some x → p x ≡ true) → cond b (Some y) (find p ys) ≡ Some x → p x ≡ true
    go true t more f = subst (λ z. p z ≡ true) (same_Some y x f) t
    go false t more f = more f
