-- A stable sort leaves the list that is made by putting one element after another in its place, before those that tie
-- with it.
use Rattle.std.proofs.Common.{◌≡◌, ℕ, suc, ◌<◌, ◌≤◌, Bool, true, false, cond, not, ◌&&◌, if◌then◌else◌, List, [], ◌∷◌, filter, map, length, get_or, refl, sym, ap, ap₂, ◌∙◌, arith, true≢false}
use Rattle.std.specs.declared.cmp.Ordering.{Ordering}
use Rattle.std.specs.declared.cmp.Ordering.TheVariants.{Less, Equal, Greater}
use Rattle.std.specs.Cmp.{IsStrictWeakOrder, IsTotalOrder}
use Rattle.std.specs.Fn.{Called, ComparesAs}
use Rattle.std.specs.List.{AllByRecursion}
use Rattle.std.specs.List.Sorted.{IsSortedBy, IsStableBy, ties}
use Rattle.std.specs.Ordering.{is_gt, is_lt, ordering_reverse}
use Rattle.std.proofs.lemmas.Fn.{always_returns_same}
use Rattle.std.proofs.lemmas.List.Sorted.{ranks_by, sorted_far}
use denote.Param.Members.{Mut}
use denote.Ref.{Bor}
use Rattle.book.specs.Sorted.{put_by, sorted_by}

-- ---- two sorted lists

module _ {X : Type 0} (lt : X → X → Bool) (weak : IsStrictWeakOrder lt) where
  -- no element is below one before it
  abbrev pub Rise : List X → Type 0
  Rise [] = Unit {0}
  Rise (x ∷ xs) = AllByRecursion (λ y. lt y x ≡ false) xs × Rise xs

  ties_itself : (x : X) → ties lt x x ≡ true
  ties_itself x = go (lt x x) (weak.one_way x x)
    where
      go : (b : Bool) → (b ≡ true → b ≡ false) → not b && not b ≡ true
      go true h = absurd (true≢false (h refl))
      go false h = refl

  -- what is below the first of a list that rises ties with none of it
  none_ties : (x y : X) (ys : List X) → lt x y ≡ true → AllByRecursion (λ z. lt z y ≡ false) ys → filter (ties lt x) ys ≡ []
  none_ties x y [] below all = refl
  none_ties x y (z ∷ ys) below all =
      ap (λ b. cond b (z ∷ filter (ties lt x) ys) (filter (ties lt x) ys)) (apart (lt x z) refl)
      ∙ none_ties x y ys below all.1
    where
      apart : (b : Bool) → lt x z ≡ b → ties lt x z ≡ false
      apart true t = ap (λ b. not b && not (lt z x)) t
      apart false t = absurd (true≢false (sym below ∙ weak.chain x z y t all.0))

  -- the first of two lists that rise, and tie alike, is not below the first of the other
  first_not_below : (x y : X) (xs ys : List X) → Rise (y ∷ ys) → filter (ties lt x) (x ∷ xs) ≡ filter (ties lt x) (y ∷ ys) → lt x y ≡ false
  first_not_below x y xs ys up same = go (lt x y) refl
    where
      go : (b : Bool) → lt x y ≡ b → b ≡ false
      go false t = refl
      go true t =
          let others : filter (ties lt x) (y ∷ ys) ≡ [] =
          ap (λ b. cond (not b && not (lt y x)) (y ∷ filter (ties lt x) ys) (filter (ties lt x) ys)) t ∙ none_ties x y ys t up.0 in
          let own : filter (ties lt x) (x ∷ xs) ≡ x ∷ filter (ties lt x) xs = ap (λ b. cond b (x ∷ filter (ties lt x) xs) (filter (ties lt x) xs)) (ties_itself x) in
          let clash : x ∷ filter (ties lt x) xs ≡ [] = sym own ∙ same ∙ others in
          absurd (cc)

  -- Two lists that rise and tie alike are equal.
  pub one_list : (xs ys : List X) → Rise xs → Rise ys → ((z : X) → filter (ties lt z) xs ≡ filter (ties lt z) ys) → xs ≡ ys
  one_list [] [] up up' same = refl
  one_list [] (y ∷ ys) up up' same =
      absurd (let e : [] ≡ y ∷ filter (ties lt y) ys = same y ∙ ap (λ b. cond b (y ∷ filter (ties lt y) ys) (filter (ties lt y) ys)) (ties_itself y) in cc)
  one_list (x ∷ xs) [] up up' same =
      absurd (let e : x ∷ filter (ties lt x) xs ≡ [] = sym (ap (λ b. cond b (x ∷ filter (ties lt x) xs) (filter (ties lt x) xs)) (ties_itself x)) ∙ same x in cc)
  one_list (x ∷ xs) (y ∷ ys) up up' same =
      let low : lt x y ≡ false = first_not_below x y xs ys up' (same x) in
      let high : lt y x ≡ false = first_not_below y x ys xs up (sym (same y)) in
      let own : filter (ties lt x) (x ∷ xs) ≡ x ∷ filter (ties lt x) xs = ap (λ b. cond b (x ∷ filter (ties lt x) xs) (filter (ties lt x) xs)) (ties_itself x) in
      let other : filter (ties lt x) (y ∷ ys) ≡ y ∷ filter (ties lt x) ys = ap₂ (λ a b. cond (not a && not b) (y ∷ filter (ties lt x) ys) (filter (ties lt x) ys)) low high in
      let both : x ∷ filter (ties lt x) xs ≡ y ∷ filter (ties lt x) ys = sym own ∙ same x ∙ other in
      let first : x ≡ y = cc in
      ap₂ ◌∷◌ first (one_list xs ys up.1 up'.1 (rest first))
    where
      behind : (b : Bool) (l m : List X) → cond b (x ∷ l) l ≡ cond b (x ∷ m) m → l ≡ m
      behind true l m e = cc
      behind false l m e = e

      rest : x ≡ y → (z : X) → filter (ties lt z) xs ≡ filter (ties lt z) ys
      rest first z =
          behind (ties lt z x) (filter (ties lt z) xs) (filter (ties lt z) ys)
          (same z ∙ sym (ap (λ w. cond (ties lt z w) (w ∷ filter (ties lt z) ys) (filter (ties lt z) ys)) first))

  all_from : (x : X) (xs : List X) → ((k : ℕ) → k < length xs → lt (get_or xs k x) x ≡ false) → AllByRecursion (λ y. lt y x ≡ false) xs
  all_from x [] h = tt
  all_from x (y ∷ ys) h = (h 0 (omega arith), all_from x ys (λ k within. h (suc k) (omega arith)))

  rise_from : (xs : List X) → ((i j : ℕ) (d : X) → i ≤ j → j < length xs → lt (get_or xs j d) (get_or xs i d) ≡ false) → Rise xs
  rise_from [] h = tt
  rise_from (x ∷ xs) h = (all_from x xs (λ k within. h 0 (suc k) x (omega arith) (omega arith)), rise_from xs (λ i j d le within. h (suc i) (suc j) d (omega arith) (omega arith)))

-- ---- what holds of each element

all_put : {X : Type 0} (P : X → Type 0) (order : X → X → Ordering) (x : X) (ys : List X) → P x → AllByRecursion P ys → AllByRecursion P (put_by order x ys)
all_put P order x [] is all = (is, tt)
all_put P order x (y ∷ ys) is all = elim (is_gt (order x y)) as (λ b. AllByRecursion P (if b then y ∷ put_by order x ys else x ∷ y ∷ ys)) [
  | true ↦ (all.0, all_put P order x ys is all.1)
  | false ↦ (is, all)
]

-- what holds of each element holds of each once they are in order
pub all_sorted : {X : Type 0} (P : X → Type 0) (order : X → X → Ordering) (xs : List X) → AllByRecursion P xs → AllByRecursion P (sorted_by order xs)
all_sorted P order [] all = tt
all_sorted P order (x ∷ xs) all = all_put P order x (sorted_by order xs) all.0 (all_sorted P order xs all.1)

-- ---- one after another in its place

module _ {X : Type 0} (order : X → X → Ordering) (total : IsTotalOrder order) where
  abbrev below : X → X → Bool
  below x y = is_lt (order x y)

  turned : (r : Ordering) → is_gt r ≡ true → is_lt r ≡ false
  turned Less e = sym e
  turned Equal e = refl
  turned Greater e = refl

  kept : (r : Ordering) → is_gt r ≡ false → is_lt (ordering_reverse r) ≡ false
  kept Less e = refl
  kept Equal e = refl
  kept Greater e = e

  reached : (r : Ordering) → is_gt r ≡ true → r ≡ Greater
  reached Less e = absurd (true≢false (sym e))
  reached Equal e = absurd (true≢false (sym e))
  reached Greater e = refl

  even : (r s : Ordering) → r ≡ ordering_reverse s → not (is_lt r) && not (is_lt s) ≡ true → r ≡ Equal
  even Less s e h = absurd (true≢false (sym h))
  even Equal s e h = refl
  even Greater Less e h = absurd (true≢false (sym h))
  even Greater Equal e h = e
  even Greater Greater e h = cc

  rise_put : (x : X) (ys : List X) → Rise below (ranks_by total (λ x. x)) ys → Rise below (ranks_by total (λ x. x)) (put_by order x ys)
  rise_put x [] up = (tt, tt)
  rise_put x (y ∷ ys) up = go (is_gt (order x y)) refl (rise_put x ys up.1)
    where
      weak : IsStrictWeakOrder below
      weak = ranks_by total (λ x. x)

      all_after : (zs : List X) → below y x ≡ false → AllByRecursion (λ z. below z y ≡ false) zs → AllByRecursion (λ z. below z x ≡ false) zs
      all_after [] h all = tt
      all_after (z ∷ zs) h all = (weak.chain z y x all.0 h, all_after zs h all.1)

      go : (b : Bool) → is_gt (order x y) ≡ b → Rise below (ranks_by total (λ x. x)) (put_by order x ys) → Rise below (ranks_by total (λ x. x)) (if b then y ∷ put_by order x ys else x ∷ y ∷ ys)
      go true t more = (all_put (λ z. below z y ≡ false) order x ys (turned (order x y) t) up.0, more)
      go false t more =
          let least : below y x ≡ false = ap is_lt (total.antisymm y x) ∙ kept (order x y) t in
          ((least, all_after ys least up.0), up)

  pub rise_sorted : (xs : List X) → Rise below (ranks_by total (λ x. x)) (sorted_by order xs)
  rise_sorted [] = tt
  rise_sorted (x ∷ xs) = rise_put x (sorted_by order xs) (rise_sorted xs)

  -- an element that ties with one does not tie with another that is below that one
  parted : (z x y : X) → ties below z x ≡ true → is_gt (order x y) ≡ true → ties below z y ≡ false
  parted z x y tie above =
      let same : order z x ≡ Equal = even (order z x) (order x z) (total.antisymm z x) tie in
      let over : order z y ≡ Greater = total.congr z x y same ∙ reached (order x y) above in
      ap₂ (λ r s. not (is_lt r) && not (is_lt s)) over (total.antisymm y z ∙ ap ordering_reverse over)

  stays_put : (z x : X) (ys : List X) → filter (ties below z) (put_by order x ys) ≡ filter (ties below z) (x ∷ ys)
  stays_put z x [] = refl
  stays_put z x (y ∷ ys) = go (is_gt (order x y)) refl (stays_put z x ys)
    where
      past : (a b : Bool) → (a ≡ true → b ≡ false) → (l : List X) → cond b (y ∷ cond a (x ∷ l) l) (cond a (x ∷ l) l) ≡ cond a (x ∷ cond b (y ∷ l) l) (cond b (y ∷ l) l)
      past true true h l = absurd (true≢false (h refl))
      past true false h l = refl
      past false true h l = refl
      past false false h l = refl

      go : (b : Bool) → is_gt (order x y) ≡ b → filter (ties below z) (put_by order x ys) ≡ filter (ties below z) (x ∷ ys) → filter (ties below z) (if b then y ∷ put_by order x ys else x ∷ y ∷ ys) ≡ filter (ties below z) (x ∷ y ∷ ys)
      go true t more =
          ap (λ l. cond (ties below z y) (y ∷ l) l) more
          ∙ past (ties below z x) (ties below z y) (λ h. parted z x y h t) (filter (ties below z) ys)
      go false t more = refl

  pub stays_sorted : (z : X) (xs : List X) → filter (ties below z) (sorted_by order xs) ≡ filter (ties below z) xs
  stays_sorted z [] = refl
  stays_sorted z (x ∷ xs) =
      stays_put z x (sorted_by order xs)
      ∙ ap (λ l. cond (ties below z x) (x ∷ l) l) (stays_sorted z xs)

  -- a stable sort by the order gives that list
  pub sorted_same : {F : Type 0} {g : Mut F (Bor X × (Bor X × Unit {0})) Ordering} {f : F} (xs ys : List X)
      → ((lt : X → X → Bool) → IsStrictWeakOrder lt → ComparesAs g lt f → IsSortedBy lt ys)
      → ((lt : X → X → Bool) → IsStrictWeakOrder lt → ComparesAs g lt f → IsStableBy lt xs ys)
      → ((a : Bor X × (Bor X × Unit {0})) (r : Ordering) (f' : F) → Called g f a r f' → (r ≡ order a.0.now a.1.0.now) × (f' ≡ f)) → ys ≡ sorted_by order xs
  sorted_same {g = g} {f = f} xs ys sorted stable h =
      let weak : IsStrictWeakOrder below = ranks_by total (λ x. x) in
      let compares : ComparesAs g below f = always_returns_same g (λ a r. is_lt r ≡ below a.0.now a.1.0.now) f (λ a r f' k. (ap is_lt (h a r f' k).0, (h a r f' k).1)) in
      one_list below weak ys (sorted_by order xs)
      (rise_from below weak ys (sorted_far below weak ys (sorted below weak compares)))
      (rise_sorted xs)
      (λ z. stable below weak compares z ∙ sym (stays_sorted z xs))

-- ---- what is sorted, as something else shows it

put_by-map : {A B : Type 0} (order : B → B → Ordering) (f : A → B) (x : A) (ys : List A)
    → put_by order (f x) (map f ys) ≡ map f (put_by (λ a b. order (f a) (f b)) x ys)
put_by-map order f x [] = refl
put_by-map order f x (y ∷ ys) = go (is_gt (order (f x) (f y))) (put_by-map order f x ys)
  where
    go : (b : Bool) → put_by order (f x) (map f ys) ≡ map f (put_by (λ a b. order (f a) (f b)) x ys)
        → (if b then f y ∷ put_by order (f x) (map f ys) else f x ∷ f y ∷ map f ys)
        ≡ map f (if b then y ∷ put_by (λ a b. order (f a) (f b)) x ys else x ∷ y ∷ ys)
    go true more = ap (λ l. f y ∷ l) more
    go false more = refl

pub sorted_by-map : {A B : Type 0} (order : B → B → Ordering) (f : A → B) (xs : List A)
    → sorted_by order (map f xs) ≡ map f (sorted_by (λ a b. order (f a) (f b)) xs)
sorted_by-map order f [] = refl
sorted_by-map order f (x ∷ xs) =
    ap (put_by order (f x)) (sorted_by-map order f xs) ∙ put_by-map order f x (sorted_by (λ a b. order (f a) (f b)) xs)
