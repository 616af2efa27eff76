-- Lists: what holds of each element, by recursion; filters; a rule over steps.
use Rattle.std.proofs.Common.{◌≡◌, ℕ, zero, suc, ◌<◌, Bool, true, false, cond, List, [], ◌∷◌, ◌++◌, map, Option, Some, None, get_or, length, refl, sym, ap, subst, ◌∙◌, arith, append_assoc, append-nil}
use Rattle.std.specs.Prelude.{Contains, IfSome}
use Rattle.std.specs.List.{AllByRecursion, flat_map, filter_map, cons_option, find}
use Rattle.std.specs.Option.{option_map, option_or, unwrap_or}
use Rattle.std.proofs.lemmas.List.Elements.{recursion_from_All, All-from_recursion}

pub all_append : {X : Type 0} (P : X → Type 0) (xs ys : List X) → AllByRecursion P xs → AllByRecursion P ys → AllByRecursion P (xs ++ ys)
all_append P [] ys hx hy = hy
all_append P (x ∷ xs) ys hx hy = (hx.0, all_append P xs ys hx.1 hy)

pub all_front : {X : Type 0} (P : X → Type 0) (xs ys : List X) → AllByRecursion P (xs ++ ys) → AllByRecursion P xs
all_front P [] ys h = tt
all_front P (x ∷ xs) ys h = (h.0, all_front P xs ys h.1)

pub all_back : {X : Type 0} (P : X → Type 0) (xs ys : List X) → AllByRecursion P (xs ++ ys) → AllByRecursion P ys
all_back P [] ys h = h
all_back P (x ∷ xs) ys h = all_back P xs ys h.1

pub all_weaker : {X : Type 0} (P Q : X → Type 0) → ((x : X) → P x → Q x) → (xs : List X) → AllByRecursion P xs → AllByRecursion Q xs
all_weaker P Q f [] h = tt
all_weaker P Q f (x ∷ xs) h = (f x h.0, all_weaker P Q f xs h.1)

pub all_map : {X Y : Type 0} (P : Y → Type 0) (f : X → Y) (xs : List X) → AllByRecursion (λ x. P (f x)) xs → AllByRecursion P (map f xs)
all_map P f [] h = tt
all_map P f (x ∷ xs) h = (h.0, all_map P f xs h.1)

pub all_unmap : {X Y : Type 0} (P : Y → Type 0) (f : X → Y) (xs : List X) → AllByRecursion P (map f xs) → AllByRecursion (λ x. P (f x)) xs
all_unmap P f [] h = tt
all_unmap P f (x ∷ xs) h = (h.0, all_unmap P f xs h.1)

pub all_flat_map : {X Y : Type 0} (P : Y → Type 0) (f : X → List Y) (xs : List X) → AllByRecursion (λ x. AllByRecursion P (f x)) xs → AllByRecursion P (flat_map f xs)
all_flat_map P f [] h = tt
all_flat_map P f (x ∷ xs) h = all_append P (f x) (flat_map f xs) h.0 (all_flat_map P f xs h.1)

pub all_from_flat_map : {X Y : Type 0} (P : Y → Type 0) (f : X → List Y) (xs : List X) → AllByRecursion P (flat_map f xs) → AllByRecursion (λ x. AllByRecursion P (f x)) xs
all_from_flat_map P f [] h = tt
all_from_flat_map P f (x ∷ xs) h = (all_front P (f x) (flat_map f xs) h, all_from_flat_map P f xs (all_back P (f x) (flat_map f xs) h))

all_cons_option : {Y : Type 0} (P : Y → Type 0) (o : Option Y) (ys : List Y) → IfSome o P → AllByRecursion P ys → AllByRecursion P (cons_option o ys)
all_cons_option P None ys h hs = hs
all_cons_option P (Some y) ys h hs = (h, hs)

-- what each element gives, if any
pub all_filter_map : {X Y : Type 0} (P : Y → Type 0) (f : X → Option Y) (xs : List X) → AllByRecursion (λ x. IfSome (f x) P) xs → AllByRecursion P (filter_map f xs)
all_filter_map P f [] h = tt
all_filter_map P f (x ∷ xs) h = all_cons_option P (f x) (filter_map f xs) h.0 (all_filter_map P f xs h.1)

pub all_always : {X : Type 0} (P : X → Type 0) → ((x : X) → P x) → (xs : List X) → AllByRecursion P xs
all_always P f [] = tt
all_always P f (x ∷ xs) = (f x, all_always P f xs)

get_or_inside : {X : Type 0} (xs : List X) (k : ℕ) (d e : X) → k < length xs → get_or xs k e ≡ get_or xs k d
get_or_inside [] k d e h = absurd (omega arith)
get_or_inside (x ∷ xs) zero d e h = refl
get_or_inside (x ∷ xs) (suc k) d e h = get_or_inside xs k d e (omega arith)

-- each element of a list is one of it
pub all_contained : {X : Type 0} (xs : List X) → AllByRecursion (Contains xs) xs
all_contained xs = recursion_from_All (Contains xs) xs (λ k d h. (k, h, get_or_inside xs k d _ h))

-- what holds of each element holds of one of them
pub at_contained : {X : Type 0} (P : X → Type 0) (xs : List X) (x : X) → AllByRecursion P xs → Contains xs x → P x
at_contained P xs x h there = subst P there.2 (All-from_recursion P xs h there.0 x there.1)

-- what holds of all that a list contains holds of each element
pub all_from_contained : {X : Type 0} (P : X → Type 0) (xs : List X) → ((x : X) → Contains xs x → P x) → AllByRecursion P xs
all_from_contained P xs each = all_weaker (Contains xs) P each xs (all_contained xs)

pub contains_later : {X : Type 0} (y : X) (xs : List X) (x : X) → Contains xs x → Contains (y ∷ xs) x
contains_later y xs x there = (suc there.0, omega (arith, there.1), there.2)

-- the first one, or another
pub contains_cases : {X : Type 0} (P : Type 0) (y : X) (xs : List X) (x : X) → (y ≡ x → P) → (Contains xs x → P) → Contains (y ∷ xs) x → P
contains_cases {X} P y xs x first later there = at_place there.0 there.1 there.2
  where
    at_place : (k : ℕ) → k < length (y ∷ xs) → get_or (y ∷ xs) k x ≡ x → P
    at_place zero inside is = first is
    at_place (suc k) inside is = later (k, omega (arith, inside), is)

-- tests that agree at each element of a list keep the same elements
cond_same : {X : Type 0} (a b : Bool) (x : X) (xs ys : List X) → a ≡ b → xs ≡ ys → cond a (x ∷ xs) xs ≡ cond b (x ∷ ys) ys
cond_same a b x xs ys e h = ap (λ c. cond c (x ∷ xs) xs) e ∙ ap (λ zs. cond b (x ∷ zs) zs) h

-- ---- what is found

pub find_have : {X : Type 0} (P : X → Type 0) (t : X → Bool) (xs : List X) → AllByRecursion P xs → IfSome (find t xs) P
find_have P t [] h = tt
find_have P t (x ∷ xs) h = elim (t x) as (λ b. IfSome (cond b (Some x) (find t xs)) P) [ true ↦ h.0 | false ↦ find_have P t xs h.1 ]

pub map_have : {X Y : Type 0} (P : Y → Type 0) (f : X → Y) (o : Option X) → IfSome o (λ x. P (f x)) → IfSome (option_map f o) P
map_have P f None h = tt
map_have P f (Some x) h = h

pub or_have : {X : Type 0} (P : X → Type 0) (o p : Option X) → IfSome o P → IfSome p P → IfSome (option_or o p) P
or_have P None p ho hp = hp
or_have P (Some x) p ho hp = ho

pub unwrap_or_has : {X : Type 0} (P : X → Type 0) (o : Option X) (d : X) → IfSome o P → P d → P (unwrap_or o d)
unwrap_or_has P None d ho hd = hd
unwrap_or_has P (Some x) d ho hd = ho

pub at_some : {X : Type 0} (P : X → Type 0) (o : Option X) (x : X) → IfSome o P → o ≡ Some x → P x
at_some P o x h is = subst (λ p. IfSome p P) is h

-- ---- steps

-- what holds of no steps, and with one more step, holds of all
by_steps_from : {X : Type 0} (P : List X → Type 0) → ((xs : List X) (x : X) → P xs → P (xs ++ x ∷ [])) → (before after : List X) → P before → P (before ++ after)
by_steps_from P more before [] h = subst P (sym (append-nil before)) h
by_steps_from P more before (x ∷ after) h = subst P (append_assoc before (x ∷ []) after) (by_steps_from P more (before ++ x ∷ []) after (more before x h))

pub by_steps : {X : Type 0} (P : List X → Type 0) → P [] → ((xs : List X) (x : X) → P xs → P (xs ++ x ∷ [])) → (xs : List X) → P xs
by_steps P none more xs = by_steps_from P more [] xs none
