-- Lists that are searched: what holds of their elements, whether one passes a test, and which is found.
use Rattle.std.proofs.Common.{◌≡◌, inl, inr, ℕ, zero, suc, Bool, true, false, not, ◌&&◌, ◌||◌, cond, List, [], ◌∷◌, map, filter, find, All, AllPairs, Some, slice_get, refl, sym, ap, ap₂, subst, ◌∙◌, true≢false}
use Rattle.std.specs.List.{AllByRecursion, list_any}
use Rattle.std.proofs.lemmas.Bool.{and_parts, or_cases, or_left, or_right}
use Rattle.std.proofs.lemmas.List.Elements.{All-from_recursion, recursion_from_All}
use Rattle.sqlite_trees.specs.Tree.{IsAscending}
use Rattle.sqlite_keyed.proofs.ListLemmas.{all_map, all_unmap, all_weaker, ascending-map, ascending_from_map}
use Rattle.tables.specs.Rows.{Numbered, rows_of}
use Rattle.tables.proofs.Pairwise.{ascending_from_pairs, pairs_from_ascending}

-- ---- elements and pairs of a list

pub all_of_rows : {X : Type 0} (P : X → Type 0) (xs : Numbered X) → All P (rows_of xs) → AllByRecursion (λ x. P x.1) xs
all_of_rows P xs all = all_unmap P (λ x. x.1) xs (recursion_from_All P (rows_of xs) all)

pub all_in_rows : {X : Type 0} (P : X → Type 0) (xs : Numbered X) → AllByRecursion (λ x. P x.1) xs → All P (rows_of xs)
all_in_rows P xs all = All-from_recursion P (rows_of xs) (all_map P (λ x. x.1) xs all)

pub pairs_of_rows : {X : Type 0} (R : X → X → Type 0) (xs : Numbered X) → AllPairs R (rows_of xs) → IsAscending (λ x y. R x.1 y.1) xs
pairs_of_rows R xs h = ascending_from_map R (λ x. x.1) xs (ascending_from_pairs R (rows_of xs) h)

pub pairs_in_rows : {X : Type 0} (R : X → X → Type 0) (xs : Numbered X) → IsAscending (λ x y. R x.1 y.1) xs → AllPairs R (rows_of xs)
pairs_in_rows R xs up = pairs_from_ascending R (rows_of xs) (ascending-map R (λ x. x.1) xs up)

pub all_from : {X : Type 0} (P : X → Type 0) → ((x : X) → P x) → (xs : List X) → AllByRecursion P xs
all_from P f [] = tt
all_from P f (x ∷ xs) = (f x, all_from P f xs)

-- two facts of each element
pub all_both : {X : Type 0} (P Q : X → Type 0) (xs : List X) → AllByRecursion P xs → AllByRecursion Q xs → AllByRecursion (λ x. P x × Q x) xs
all_both P Q [] h k = tt
all_both P Q (x ∷ xs) h k = ((h.0, k.0), all_both P Q xs h.1 k.1)

-- a fact of each element beside one of each pair
pub ascending_with : {X : Type 0} (P : X → Type 0) (R : X → X → Type 0) (xs : List X) → AllByRecursion P xs → IsAscending R xs → IsAscending (λ x y. R x y × P x × P y) xs
ascending_with P R [] all up = tt
ascending_with P R (x ∷ xs) all up =
    (all_weaker (λ y. R x y × P y) (λ y. R x y × P x × P y) (λ y h. (h.0, all.0, h.1)) xs (all_both (R x) P xs up.0 all.1), ascending_with P R xs all.1 up.1)

pub ascending_both : {X : Type 0} (R S : X → X → Type 0) (xs : List X) → IsAscending R xs → IsAscending S xs → IsAscending (λ x y. R x y × S x y) xs
ascending_both R S [] h k = tt
ascending_both R S (x ∷ xs) h k = (all_both (R x) (S x) xs h.0 k.0, ascending_both R S xs h.1 k.1)

pub map_same_on : {X Y : Type 0} (f g : X → Y) (xs : List X) → AllByRecursion (λ x. f x ≡ g x) xs → map f xs ≡ map g xs
map_same_on f g [] h = refl
map_same_on f g (x ∷ xs) h = ap₂ ◌∷◌ h.0 (map_same_on f g xs h.1)

-- two tests, one after the other
pub filter_twice : {X : Type 0} (p q : X → Bool) (xs : List X) → filter (λ x. p x && q x) xs ≡ filter q (filter p xs)
filter_twice p q [] = refl
filter_twice p q (x ∷ xs) =
    elim (p x) as (λ b. cond (b && q x) (x ∷ filter (λ y. p y && q y) xs) (filter (λ y. p y && q y) xs) ≡ filter q (cond b (x ∷ filter p xs) (filter p xs))) [
      | true ↦ ap (λ l. cond (q x) (x ∷ l) l) (filter_twice p q xs)
      | false ↦ filter_twice p q xs
    ]

-- ---- whether an element passes

pub any_weaker : {X : Type 0} (p q : X → Bool) → ((x : X) → p x ≡ true → q x ≡ true) → (xs : List X) → list_any p xs ≡ true → list_any q xs ≡ true
any_weaker p q f [] h = absurd (true≢false (sym h))
any_weaker p q f (x ∷ xs) h = elim (or_cases (p x) (list_any p xs) h) [
  | inl e ↦ or_left (q x) (list_any q xs) (f x e)
  | inr e ↦ or_right (q x) (list_any q xs) (any_weaker p q f xs e)
]

spread : (q p a b : Bool) → p || (a || b) ≡ ((q && p) || a) || ((not q && p) || b)
spread true true a b = refl
spread true false a b = refl
spread false true true b = refl
spread false true false b = refl
spread false false a b = refl

-- some element passes exactly if one passes that also passes a second test, or one that does not
pub any_parts : {X : Type 0} (q p : X → Bool) (xs : List X) → list_any p xs ≡ list_any (λ x. q x && p x) xs || list_any (λ x. not (q x) && p x) xs
any_parts q p [] = refl
any_parts q p (x ∷ xs) = ap (λ b. p x || b) (any_parts q p xs) ∙ spread (q x) (p x) (list_any (λ y. q y && p y) xs) (list_any (λ y. not (q y) && p y) xs)

-- if only one element passes, and some element passes and meets a test, that one meets it
pub any_is : {X : Type 0} (q p : X → Bool) (one : X) (xs : List X) → AllByRecursion (λ x. p x ≡ true → x ≡ one) xs → list_any (λ x. q x && p x) xs ≡ true → q one ≡ true
any_is q p one [] all h = absurd (true≢false (sym h))
any_is q p one (x ∷ xs) all h = elim (or_cases (q x && p x) (list_any (λ y. q y && p y) xs) h) [
  | inl e ↦ let parts = and_parts (q x) (p x) e in subst (λ y. q y ≡ true) (all.0 parts.1) parts.0
  | inr e ↦ any_is q p one xs all.1 e
]

-- ---- what is found

pub found_any : {X : Type 0} (p q : X → Bool) (xs : List X) (one : X) → find q xs ≡ Some one → p one ≡ true → list_any p xs ≡ true
found_any p q [] one e t = cc
found_any {X} p q (x ∷ xs) one e t = go (q x) e (λ f. found_any p q xs one f t)
  where
    go : (b : Bool) → cond b (Some x) (find q xs) ≡ Some one → (find q xs ≡ Some one → list_any p xs ≡ true) → p x || list_any p xs ≡ true
    go true f more = or_left (p x) (list_any p xs) (subst (λ y. p y ≡ true) (let k : one ≡ x = cc in k) t)
    go false f more = or_right (p x) (list_any p xs) (more f)

-- an element that passes is found
pub some_found : {X : Type 0} (p : X → Bool) (xs : List X) → list_any p xs ≡ true → (x : X) × (find p xs ≡ Some x)
some_found p [] h = absurd (true≢false (sym h))
some_found {X} p (x ∷ xs) h = go (p x) h (some_found p xs)
  where
    go : (b : Bool) → b || list_any p xs ≡ true → (list_any p xs ≡ true → (y : X) × (find p xs ≡ Some y)) → (y : X) × (cond b (Some x) (find p xs) ≡ Some y)
    go true e more = (x, refl)
    go false e more = more e

pub slice_any : {X : Type 0} (p : X → Bool) (xs : List X) (n : ℕ) (x : X) → slice_get xs n ≡ Some x → p x ≡ true → list_any p xs ≡ true
slice_any p [] n x e t = cc
slice_any p (y ∷ xs) zero x e t = or_left (p y) (list_any p xs) (subst (λ z. p z ≡ true) (let k : x ≡ y = cc in k) t)
slice_any p (y ∷ xs) (suc n) x e t = or_right (p y) (list_any p xs) (slice_any p xs n x e t)

pub any_slice : {X : Type 0} (p : X → Bool) (xs : List X) → list_any p xs ≡ true → (n : ℕ) × (x : X) × (slice_get xs n ≡ Some x) × (p x ≡ true)
any_slice p [] h = absurd (true≢false (sym h))
any_slice {X} p (x ∷ xs) h = go (p x) refl h (any_slice p xs)
  where
    go : (b : Bool) → p x ≡ b → b || list_any p xs ≡ true → (list_any p xs ≡ true → (n : ℕ) × (y : X) × (slice_get xs n ≡ Some y) × (p y ≡ true))
        → (n : ℕ) × (y : X) × (slice_get (x ∷ xs) n ≡ Some y) × (p y ≡ true)
    go true t e more = (0, x, refl, t)
    go false t e more = let k = more e in (suc k.0, k.1, k.2, k.3)

-- ---- rowids
