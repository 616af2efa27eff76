-- Lists in any order: their one sorting, and what is so of each order of them.
use Rattle.std.proofs.Common.{◌≡◌, ◌≢◌, zero, suc, ◌+◌, ◌≤◌, Bool, true, false, cond, List, [], ◌∷◌, length, filter, find, slice_get, inl, inr, refl, sym, ap, ◌∙◌, arith, Ordering, is_lt, IsPermutation, IsSorted}
use Rattle.std.specs.Prelude.{Contains}
use Rattle.std.specs.Cmp.{IsTotalOrder}
use Rattle.std.specs.List.{AllByRecursion, remove}
use Rattle.std.proofs.lemmas.List.Elements.{All-from_recursion, recursion_from_All}
use Rattle.std.proofs.lemmas.List.Sorted.{All-permutation, Contains-permutation, IsPermutation-cons, IsPermutation-refl, IsPermutation-remove, IsPermutation-sym, IsPermutation-trans, length_permutation}
use Rattle.sqlite_trees.specs.Tree.{IsAscending}
use Rattle.sqlite_keyed.proofs.ListLemmas.{IsPermutation-filter, IsPermutation-same, all_weaker, along_permutation, filter_none, slice_get-filter}
use Rattle.sqlite_keyed.proofs.SortLemmas.{HasNoTies, IsPermutation-sort_by, sorted_is-sort_by, sorted_unique}
use Rattle.sums.proofs.Members.{which}
use Rattle.tables_meaning.specs.Reads.{sorted_by}
use Rattle.tables_meaning.proofs.SortedLemmas.{rise_sorted}

-- ---- one sorting

module _ {X : Type 0} (cmp : X → X → Ordering) (total : IsTotalOrder cmp) where
  -- what rises is sorted
  sorted_from : (xs : List X) → IsAscending (λ a b. is_lt (cmp b a) ≡ false) xs → IsSorted cmp xs
  sorted_from [] up k d low within = absurd (omega arith)
  sorted_from (x ∷ []) up k d low within = absurd (omega arith)
  sorted_from (x ∷ y ∷ ys) up zero d low within = up.0.0
  sorted_from (x ∷ y ∷ ys) up (suc k) d low within =
      let next : suc k + 1 ≡ suc (k + 1) = omega arith in
      rw next (sorted_from (y ∷ ys) up.1 k d (omega arith) (omega arith))

  -- A list in which each element is below the later ones is its own sorting.
  pub sorted_rising : (xs : List X) → IsAscending (λ a b. cmp a b ≡ Ordering.Less) xs → sorted_by cmp xs ≡ xs
  sorted_rising xs up = sorted_unique cmp total xs _ up (IsPermutation-sym _ _ (IsPermutation-sort_by cmp total xs)) (sorted_from _ (rise_sorted cmp total xs))

  -- Lists with the same elements, of which no two tie, have one sorting.
  pub permuted_same : (xs ys : List X) → HasNoTies cmp total xs → IsPermutation xs ys → sorted_by cmp ys ≡ sorted_by cmp xs
  permuted_same xs ys apart same =
      sorted_is-sort_by cmp total xs _ apart (IsPermutation-trans _ _ _ same (IsPermutation-sym _ _ (IsPermutation-sort_by cmp total ys))) (sorted_from _ (rise_sorted cmp total ys))

-- ---- what passes a test

module _ {X : Type 0} where
  -- a list of at most one element has one order
  one_order : (xs ys : List X) → length xs ≤ 1 → IsPermutation xs ys → ys ≡ xs
  one_order [] [] few same = refl
  one_order [] (y ∷ ys) few same = absurd (omega (arith, length_permutation _ _ same))
  one_order (x ∷ []) [] few same = absurd (omega (arith, length_permutation _ _ same))
  one_order (x ∷ []) (y ∷ []) few same =
      ap (λ z. z ∷ []) (recursion_from_All (λ z. z ≡ x) (y ∷ []) (All-permutation (λ z. z ≡ x) (x ∷ []) (y ∷ []) same (All-from_recursion (λ z. z ≡ x) (x ∷ []) (refl, tt)))).0
  one_order (x ∷ []) (y ∷ z ∷ ys) few same = absurd (omega (arith, length_permutation _ _ same))
  one_order (x ∷ w ∷ xs) ys few same = absurd (omega arith)

  -- If at most one element passes, the same passes in each order.
  pub passing_permuted : (p : X → Bool) (xs ys : List X) → length (filter p xs) ≤ 1 → IsPermutation xs ys → filter p ys ≡ filter p xs
  passing_permuted p xs ys few same = one_order (filter p xs) (filter p ys) few (IsPermutation-filter p xs ys same)

  -- if at most one element passes, the same is found in each order
  pub found_permuted : (p : X → Bool) (xs ys : List X) → IsAscending (λ a b. p a ≡ true → p b ≡ false) ys → IsPermutation xs ys → find p xs ≡ find p ys
  found_permuted p xs ys apart same =
      sym (slice_get-filter p xs)
      ∙ ap (λ l. slice_get l 0) (passing_permuted p ys xs (few ys apart) (IsPermutation-sym _ _ same))
      ∙ slice_get-filter p ys
    where
      few_more : (x : X) (zs : List X) (b : Bool) → p x ≡ b → AllByRecursion (λ z. p x ≡ true → p z ≡ false) zs → length (filter p zs) ≤ 1 → length (cond b (x ∷ filter p zs) (filter p zs)) ≤ 1
      few_more x zs true here others h = let none : filter p zs ≡ [] = filter_none p zs (all_weaker _ (λ z. p z ≡ false) (λ z other. other here) zs others) in rw none (omega arith)
      few_more x zs false here others h = h

      few : (zs : List X) → IsAscending (λ a b. p a ≡ true → p b ≡ false) zs → length (filter p zs) ≤ 1
      few [] up = omega arith
      few (z ∷ zs) up = few_more z zs (p z) refl up.0 (few zs up.1)

-- ---- two by two

-- What holds of each two elements, either way round, holds in each order.
pub pairs_permuted : {X : Type 0} (R : X → X → Type 0) → ((x y : X) → R x y → R y x) → (xs ys : List X) → IsPermutation xs ys → IsAscending R xs → IsAscending R ys
pairs_permuted {X = X} R turned xs ys same =
    (along_permutation (λ xs ys. ((z : X) → AllByRecursion (R z) xs → AllByRecursion (R z) ys) × (IsAscending R xs → IsAscending R ys))
    (λ xs. (λ z all. all, λ up. up))
    (λ x xs ys h. (λ z all. (all.0, h.0 z all.1), λ up. (h.0 x up.0, h.1 up.1)))
    (λ x y xs. (λ z all. (all.1.0, (all.0, all.1.1)), λ up. ((turned x y up.0.0, up.1.0), (up.0.1, up.1.1))))
    (λ xs ys zs f g. (λ z all. g.0 z (f.0 z all), λ up. g.1 (f.1 up))) xs ys same).1

-- ---- lists with the same elements

-- what is a permutation after each of two equations
pub permuted_by : {X : Type 0} {us vs xs ys : List X} → us ≡ vs → IsPermutation vs xs → xs ≡ ys → IsPermutation us ys
permuted_by first same last = IsPermutation-trans _ _ _ (IsPermutation-same _ _ first) (IsPermutation-trans _ _ _ same (IsPermutation-same _ _ last))

module _ {X : Type 0} where
  -- Distinct elements that all are among as many others are these, in some order.
  pub contained_permutes : (xs ys : List X) → IsAscending (λ a b. a ≢ b) xs → AllByRecursion (Contains ys) xs → length xs ≡ length ys → IsPermutation xs ys
  contained_permutes [] [] apart all long = IsPermutation-refl []
  contained_permutes [] (y ∷ ys) apart all long = absurd (omega arith)
  contained_permutes (x ∷ xs) ys apart all long =
      let at = all.0 in
      let out : IsPermutation ys (x ∷ remove ys at.0) = IsPermutation-remove ys at.0 x at.1 (sym at.2) in
      let count = length_permutation _ _ out in
      IsPermutation-trans _ _ _
      (IsPermutation-cons x _ _ (contained_permutes xs (remove ys at.0) apart.1 (rest xs (remove ys at.0) apart.0 (others xs out all.1)) (omega arith)))
      (IsPermutation-sym _ _ out)
    where
      others : (zs : List X) {ws : List X} → IsPermutation ys (x ∷ ws) → AllByRecursion (Contains ys) zs → AllByRecursion (Contains (x ∷ ws)) zs
      others [] out all = tt
      others (z ∷ zs) out all = (Contains-permutation _ _ z out all.0, others zs out all.1)

      rest : (zs ws : List X) → AllByRecursion (λ z. x ≢ z) zs → AllByRecursion (Contains (x ∷ ws)) zs → AllByRecursion (Contains ws) zs
      rest [] ws apart all = tt
      rest (z ∷ zs) ws apart all = (elim (which x z ws all.0) [ inl is ↦ absurd (apart.0 is) | inr later ↦ later ], rest zs ws apart.1 all.1)
