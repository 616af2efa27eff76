-- Tests over lists that were made from others.
use Rattle.std.proofs.Common.{◌≡◌, Bool, true, false, cond, not, ◌&&◌, ◌||◌, List, [], ◌∷◌, map, refl, ap, ◌∙◌, Option, Some, None, sym, ap₂}
use Rattle.std.specs.List.{find, filter, list_any, list_all, AllByRecursion}
use Rattle.std.proofs.Math.Bool.{not-not}
use Rattle.std.specs.Option.{option_or}

pub same_find : {X : Type 0} (p q : X → Bool) → ((x : X) → p x ≡ q x) → (xs : List X) → find p xs ≡ find q xs
same_find p q h xs = ap (λ t. find t xs) (λ i x. h x i)

pub same_any : {X : Type 0} (p q : X → Bool) → ((x : X) → p x ≡ q x) → (xs : List X) → list_any p xs ≡ list_any q xs
same_any p q h xs = ap (λ t. list_any t xs) (λ i x. h x i)

filter_step : {A B : Type 0} (f : A → B) (b : Bool) (x : A) (ys : List B) (zs : List A) → ys ≡ map f zs
    → cond b (f x ∷ ys) ys ≡ map f (cond b (x ∷ zs) zs)
filter_step f true x ys zs e = ap (λ vs. f x ∷ vs) e
filter_step f false x ys zs e = e

pub filter-map : {A B : Type 0} (p : B → Bool) (f : A → B) (xs : List A) → filter p (map f xs) ≡ map f (filter (λ x. p (f x)) xs)
filter-map p f [] = refl
filter-map p f (x ∷ xs) = filter_step f (p (f x)) x (filter p (map f xs)) (filter (λ y. p (f y)) xs) (filter-map p f xs)

any_step : {X : Type 0} (q : X → Bool) (b r t : Bool) (x : X) (xs : List X) → list_any q xs ≡ t → q x ≡ r
    → list_any q (cond b (x ∷ xs) xs) ≡ ((b && r) || t)
any_step q true r t x xs e h = ap (λ v. v || list_any q xs) h ∙ ap (λ v. r || v) e
any_step q false r t x xs e h = e

pub list_any-filter : {X : Type 0} (q p : X → Bool) (xs : List X) → list_any q (filter p xs) ≡ list_any (λ x. p x && q x) xs
list_any-filter q p [] = refl
list_any-filter q p (x ∷ xs) = any_step q (p x) (q x) _ x (filter p xs) (list_any-filter q p xs) refl

all_step : {X : Type 0} (q : X → Bool) (b t : Bool) (x : X) (xs : List X) → list_all q xs ≡ t
    → list_all q (cond b (x ∷ xs) xs) ≡ ((not b || q x) && t)
all_step q true t x xs e = ap (λ v. q x && v) e
all_step q false t x xs e = e

pub list_all-filter : {X : Type 0} (q p : X → Bool) (xs : List X) → list_all q (filter p xs) ≡ list_all (λ x. not (p x) || q x) xs
list_all-filter q p [] = refl
list_all-filter q p (x ∷ xs) = all_step q (p x) _ x (filter p xs) (list_all-filter q p xs)

pub list_all-filter_not : {X : Type 0} (q p : X → Bool) (xs : List X) → list_all q (filter (λ x. not (p x)) xs) ≡ list_all (λ x. p x || q x) xs
list_all-filter_not q p xs = list_all-filter q (λ x. not (p x)) xs ∙ ap (λ t. list_all t xs) (λ i x. not-not (p x) i || q x)

pub filter_same_on : {X : Type 0} (p q : X → Bool) (xs : List X) → AllByRecursion (λ x. p x ≡ q x) xs → filter p xs ≡ filter q xs
filter_same_on p q [] h = refl
filter_same_on p q (x ∷ xs) h = ap₂ (λ b l. cond b (x ∷ l) l) h.0 (filter_same_on p q xs h.1)

pub any_with : {X : Type 0} (b : Bool) (p : X → Bool) (xs : List X) → list_any (λ x. b && p x) xs ≡ (b && list_any p xs)
any_with true p xs = refl
any_with false p [] = refl
any_with false p (x ∷ xs) = any_with false p xs

-- ---- tests and options

pub same_tests : (a b : Bool) → (a ≡ true → b ≡ true) → (b ≡ true → a ≡ true) → a ≡ b
same_tests true b f g = sym (f refl)
same_tests false true f g = g refl
same_tests false false f g = refl

pub not_either : (a b : Bool) → not (a || b) ≡ (not a && not b)
not_either true b = refl
not_either false b = refl

pub option_or_none : {X : Type 0} (o : Option X) → option_or o None ≡ o
option_or_none None = refl
option_or_none (Some x) = refl
