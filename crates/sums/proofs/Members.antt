-- Members of lists, tests over them, and members that a name distinguishes.
use Rattle.std.proofs.Common.{◌≡◌, ◌≢◌, ℕ, zero, suc, ◌<◌, ◌⊎◌, Bool, true, false, cond, List, [], ◌∷◌, map, Some, length, get_or, inl, inr, refl, sym, ap, subst, ◌∙◌, arith}
use Rattle.std.proofs.lemmas.Bool.{cases_lt}
use Rattle.std.proofs.lemmas.List.{get_or_default}
use Rattle.std.proofs.lemmas.List.Folds.{list_any_at, list_all_at, Any-from_list_any}
use Rattle.std.specs.List.{list_any, list_all, find}
use Rattle.std.specs.Prelude.{Contains, AllPairs, All}

pub here : {X : Type 0} (x : X) (xs : List X) → Contains (x ∷ xs) x
here x xs = (0, omega arith, refl)

pub there : {X : Type 0} (y x : X) (xs : List X) → Contains xs x → Contains (y ∷ xs) x
there y x xs h = (suc h.0, omega (arith, h.1), h.2)

-- a member of a list is its first or one of the rest
pub which : {X : Type 0} (y x : X) (xs : List X) → Contains (y ∷ xs) x → (y ≡ x) ⊎ Contains xs x
which y x xs h = at h.0 h.1 h.2
  where
    at : (k : ℕ) → k < length (y ∷ xs) → get_or (y ∷ xs) k x ≡ x → (y ≡ x) ⊎ Contains xs x
    at zero l e = inl e
    at (suc k) l e = inr (k, omega arith, e)

pub no_member : {X : Type 0} {P : Type 0} (x : X) → Contains [] x → P
no_member x h = absurd (omega (arith, h.1))

pub contains_map : {X Y : Type 0} (f : X → Y) (x : X) (xs : List X) → Contains xs x → Contains (map f xs) (f x)
contains_map f x [] h = no_member x h
contains_map f x (y ∷ ys) h = elim (which y x ys h) [
  | inl e ↦ subst (λ z. Contains (f y ∷ map f ys) z) (ap f e) (here (f y) (map f ys))
  | inr r ↦ there (f y) (f x) (map f ys) (contains_map f x ys r)
]

pub from_map : {X Y : Type 0} (f : X → Y) (y : Y) (xs : List X) → Contains (map f xs) y → (x : X) × Contains xs x × (f x ≡ y)
from_map f y [] h = no_member y h
from_map f y (x ∷ xs) h = elim (which (f x) y (map f xs) h) [
  | inl e ↦ (x, here x xs, e)
  | inr r ↦ let q = from_map f y xs r in (q.0, there x q.0 xs q.1, q.2)
]

pub any_true : {X : Type 0} (p : X → Bool) (xs : List X) (x : X) → Contains xs x → p x ≡ true → list_any p xs ≡ true
any_true p xs x h e = list_any_at p xs h.0 x h.1 (ap p h.2 ∙ e)

pub any_false : {X : Type 0} (p : X → Bool) (xs : List X) (x : X) → list_any p xs ≡ false → Contains xs x → p x ≡ false
any_false p xs x h found = by_case (p x) refl
  where
    by_case : (b : Bool) → p x ≡ b → p x ≡ false
    by_case true e = cc (sym h ∙ any_true p xs x found e)
    by_case false e = e

pub any_none : {X : Type 0} (p : X → Bool) (xs : List X) → ((x : X) → Contains xs x → p x ≡ false) → list_any p xs ≡ false
any_none p [] h = refl
any_none p (x ∷ xs) h = rw (h x (here x xs)) (any_none p xs (λ y k. h y (there x y xs k)))

pub any_some : {X : Type 0} (p : X → Bool) (xs : List X) → list_any p xs ≡ true → (x : X) × Contains xs x × (p x ≡ true)
any_some p xs h = let a = Any-from_list_any p xs h in (a.1, (a.0, a.2, a.3), a.4)

pub all_true : {X : Type 0} (p : X → Bool) (xs : List X) (x : X) → list_all p xs ≡ true → Contains xs x → p x ≡ true
all_true p xs x h found = by_case (p x) refl
  where
    by_case : (b : Bool) → p x ≡ b → p x ≡ true
    by_case true e = e
    by_case false e = cc (sym h ∙ list_all_at p xs found.0 x found.1 (ap p found.2 ∙ e))

-- a search finds the one member that passes
find_step : {X : Type 0} (p : X → Bool) (x y : X) (xs : List X) (b : Bool) → p x ≡ b → p y ≡ true → (x ≡ y) ⊎ Contains xs y → (p x ≡ true → x ≡ y) → (Contains xs y → find p xs ≡ Some y)
    → cond b (Some x) (find p xs) ≡ Some y
find_step p x y xs true t e w u more = ap Some (u t)
find_step p x y xs false t e w u more = elim w [
  | inl same ↦ cc (sym t ∙ (ap p same ∙ e))
  | inr rest ↦ more rest
]

pub find_one : {X : Type 0} (p : X → Bool) (xs : List X) (y : X) → Contains xs y → p y ≡ true → ((z : X) → Contains xs z → p z ≡ true → z ≡ y) → find p xs ≡ Some y
find_one p [] y h e u = no_member y h
find_one p (x ∷ xs) y h e u =
    find_step p x y xs (p x) refl e (which x y xs h) (u x (here x xs)) (λ r. find_one p xs y r e (λ z k. u z (there x z xs k)))

pub all_at : {X : Type 0} (P : X → Type 0) (xs : List X) (x : X) → All P xs → Contains xs x → P x
all_at P xs x a h = subst P h.2 (a h.0 x h.1)

pub all_from : {X : Type 0} (P : X → Type 0) (xs : List X) → ((x : X) → Contains xs x → P x) → All P xs
all_from P xs f = λ k d l. f (get_or xs k d) (k, l, get_or_default xs k (get_or xs k d) d l)

pub map_same : {X : Type 0} (f : X → X) (xs : List X) → ((x : X) → Contains xs x → f x ≡ x) → map f xs ≡ xs
map_same f [] h = refl
map_same f (x ∷ xs) h = let e = h x (here x xs) in let more = map_same f xs (λ y k. h y (there x y xs k)) in λ i. e i ∷ more i

-- if the names of members differ, two members with the same name are one
pub by_name : {X Y : Type 0} (n : X → Y) (xs : List X) (a b : X) → AllPairs (λ x y. n x ≢ n y) xs → Contains xs a → Contains xs b → n a ≡ n b → a ≡ b
by_name n xs a b h p q e =
    let other : get_or xs q.0 a ≡ b = get_or_default xs q.0 a b q.1 ∙ q.2 in
    let mine : get_or xs p.0 b ≡ a = get_or_default xs p.0 b a p.1 ∙ p.2 in
    elim (cases_lt p.0 q.0) [
      | inl lt ↦ absurd (h p.0 q.0 a lt q.1 (ap n p.2 ∙ (e ∙ sym (ap n other))))
      | inr ge ↦ elim (cases_lt q.0 p.0) [
        | inl gt ↦ absurd (h q.0 p.0 b gt p.1 (ap n q.2 ∙ (sym e ∙ sym (ap n mine))))
        | inr le ↦ let same : p.0 ≡ q.0 = omega arith in sym p.2 ∙ (ap (λ k. get_or xs k a) same ∙ other)
      ]
    ]

pub pairs_head : {X : Type 0} (R : X → X → Type 0) (x : X) (xs : List X) → AllPairs R (x ∷ xs) → All (R x) xs
pairs_head R x xs h = λ k d l. h 0 (suc k) d (omega arith) (omega arith)

pub pairs_tail : {X : Type 0} (R : X → X → Type 0) (x : X) (xs : List X) → AllPairs R (x ∷ xs) → AllPairs R xs
pairs_tail R x xs h = λ i j d l m. h (suc i) (suc j) d (omega arith) (omega arith)
