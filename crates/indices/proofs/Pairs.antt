-- Lists whose elements differ, put together from lists of such lists.
use Rattle.std.proofs.Common.{◌≡◌, inl, inr, ℕ, zero, suc, List, [], ◌∷◌, ◌++◌, take, drop, get_or, map, refl, sym, ap, subst, ◌∙◌, arith}
use Rattle.std.proofs.lemmas.List.{get_or-map, length-map}
use Rattle.std.proofs.lemmas.List.Elements.{All-nil, Contains-append_left, Contains-append_right, Contains-append_cases}
use Rattle.std.proofs.lemmas.List.Kept.{AllPairs-cons}
use Rattle.std.specs.List.{flat_map}
use Rattle.std.specs.Prelude.{All, AllPairs, Contains}
use Rattle.sums.proofs.Members.{all_at, all_from, from_map, here, no_member, pairs_head, pairs_tail, there, which}
use Rattle.suites.proofs.ListMembers.{from_flat_map}

-- ---- members

pub into_flat : {X Y : Type 0} (f : X → List Y) (xs : List X) (x : X) (y : Y) → Contains xs x → Contains (f x) y → Contains (flat_map f xs) y
into_flat f [] x y at h = no_member x at
into_flat f (z ∷ xs) x y at h = elim (which z x xs at) [
  | inl is ↦ Contains-append_left (f z) (flat_map f xs) y (subst (λ w. Contains (f w) y) (sym is) h)
  | inr later ↦ Contains-append_right (f z) (flat_map f xs) y (into_flat f xs x y later h)
]

pub same_map_over : {X Y : Type 0} (f g : X → Y) (xs : List X) → ((x : X) → Contains xs x → f x ≡ g x) → map f xs ≡ map g xs
same_map_over f g [] h = refl
same_map_over f g (x ∷ xs) h =
    ap (λ y. y ∷ map f xs) (h x (here x xs)) ∙ ap (λ ys. g x ∷ ys) (same_map_over f g xs (λ z at. h z (there x z xs at)))

-- ---- pairs

pub pairs_none : {X : Type 0} (R : X → X → Type 0) → AllPairs R []
pairs_none R = λ i j d below within. absurd (omega arith)

pub pairs_one : {X : Type 0} (R : X → X → Type 0) (x : X) → AllPairs R (x ∷ [])
pairs_one R x = AllPairs-cons R x [] (All-nil (R x)) (pairs_none R)

pub pairs_append : {X : Type 0} (R : X → X → Type 0) (xs ys : List X) → AllPairs R xs → AllPairs R ys → ((x y : X) → Contains xs x → Contains ys y → R x y) → AllPairs R (xs ++ ys)
pairs_append R [] ys h k across = k
pairs_append R (x ∷ xs) ys h k across =
    AllPairs-cons R x (xs ++ ys)
    (all_from (R x) (xs ++ ys) (λ z at. elim (Contains-append_cases xs ys z at) [
      | inl mine ↦ all_at (R x) xs z (pairs_head R x xs h) mine
      | inr other ↦ across x z (here x xs) other
    ]))
    (pairs_append R xs ys (pairs_tail R x xs h) k (λ y z at other. across y z (there x y xs at) other))

pub pairs_map : {X Y : Type 0} (R : Y → Y → Type 0) (S : X → X → Type 0) (f : X → Y) (xs : List X) → ((x y : X) → Contains xs x → Contains xs y → S x y → R (f x) (f y)) → AllPairs S xs → AllPairs R (map f xs)
pairs_map R S f [] h k = pairs_none R
pairs_map R S f (x ∷ xs) h k =
    AllPairs-cons R (f x) (map f xs)
    (head xs (λ z at. h x z (here x xs) (there x z xs at) (all_at (S x) xs z (pairs_head S x xs k) at)))
    (pairs_map R S f xs (λ y z p q. h y z (there x y xs p) (there x z xs q)) (pairs_tail S x xs k))
  where
    head : (zs : List _) → ((z : _) → Contains zs z → R (f x) (f z)) → All (R (f x)) (map f zs)
    head zs g = all_from (R (f x)) (map f zs) (λ w at. let from = from_map f w zs at in subst (λ w. R (f x) w) from.2 (g from.0 from.1))

pub pairs_flat : {X Y : Type 0} (R : Y → Y → Type 0) (S : X → X → Type 0) (f : X → List Y) (xs : List X) → ((x : X) → Contains xs x → AllPairs R (f x))
    → ((x y : X) → Contains xs x → Contains xs y → S x y → (a b : Y) → Contains (f x) a → Contains (f y) b → R a b) → AllPairs S xs → AllPairs R (flat_map f xs)
pairs_flat R S f [] own h k = pairs_none R
pairs_flat R S f (x ∷ xs) own h k =
    pairs_append R (f x) (flat_map f xs) (own x (here x xs))
    (pairs_flat R S f xs (λ y at. own y (there x y xs at)) (λ y z p q. h y z (there x y xs p) (there x z xs q)) (pairs_tail S x xs k))
    (λ a b mine later.
    let found = from_flat_map f b xs later in
    h x found.0 (here x xs) (there x found.0 xs found.1) (all_at (S x) xs found.0 (pairs_head S x xs k) found.1) a b mine found.2)

-- if what is made of elements differs, the elements differ
pub pairs_unmap : {X Y : Type 0} (R : Y → Y → Type 0) (f : X → Y) (xs : List X) → AllPairs R (map f xs) → AllPairs (λ x y. R (f x) (f y)) xs
pairs_unmap R f xs h = λ i j d below within.
    let at : get_or (map f xs) i (f d) ≡ f (get_or xs i d) = get_or-map f xs i d (f d) (omega arith) in
    let too : get_or (map f xs) j (f d) ≡ f (get_or xs j d) = get_or-map f xs j d (f d) within in
    let size = length-map xs f in
    subst (λ y. R (f (get_or xs i d)) y) too (subst (λ y. R y (get_or (map f xs) j (f d))) at (h i j (f d) below (omega (arith, size))))

-- one of the first elements and one of the others
pub pairs_across : {X : Type 0} (R : X → X → Type 0) (xs : List X) (n : ℕ) (x y : X) → AllPairs R xs → Contains (take n xs) x → Contains (drop n xs) y → R x y
pairs_across R [] zero x y h p q = no_member x p
pairs_across R [] (suc n) x y h p q = no_member x p
pairs_across R (z ∷ xs) zero x y h p q = no_member x p
pairs_across R (z ∷ xs) (suc n) x y h p q = elim (which z x (take n xs) p) [
  | inl is ↦ subst (λ w. R w y) is (all_at (R z) xs y (pairs_head R z xs h) (in_drop xs n y q))
  | inr later ↦ pairs_across R xs n x y (pairs_tail R z xs h) later q
]
  where
    in_drop : {A : Type 0} (xs : List A) (n : ℕ) (y : A) → Contains (drop n xs) y → Contains xs y
    in_drop xs zero y q = q
    in_drop [] (suc n) y q = no_member y q
    in_drop (w ∷ xs) (suc n) y q = there w y xs (in_drop xs n y q)
