-- What suites show, one suite after the other.
use Rattle.std.proofs.Common.{◌≡◌, ◌≤◌, ◌<◌, ◌+◌, ℕ, zero, suc, nat_eq, List, [], ◌∷◌, ◌++◌, Bool, true, false, cond, filter, length, map, refl, sym, ap, ◌∙◌, arith}
use Rattle.std.specs.Prelude.{T, ⊤}
use Rattle.std.proofs.lemmas.Bool.Decides.{nat_tests}
use Rattle.std.proofs.lemmas.List.{map-append}
use Rattle.std.proofs.lemmas.Map.Keys.{le_from_is_le}
use Rattle.std.specs.FinMap.{entries, entries_sorted, is_sorted}
use Rattle.std.specs.FinMap.Entries.{below_all}
use Rattle.std.specs.List.{AllByRecursion, flat_map, range_with_len}
use Rattle.std.specs.Ordering.{is_le, is_lt, nat_cmp, ordering_then}
use Rattle.std.specs.declared.cmp.Ordering.{Ordering}
use Rattle.std.specs.declared.cmp.Ordering.TheVariants.{Less, Equal, Greater}
use Rattle.std.proofs.lemmas.Bool.{eqb-true, ne_eqb}
use Rattle.suites.proofs.EntryLemmas.{and_left, and_right}
use Rattle.suites.specs.Keys.{key_order}
use Rattle.suites.specs.Shelves.{ShelvesValue}
use Rattle.suites.specs.declared.item.Item.{Item}
use Rattle.suites.specs.declared.key.ShelfKey.{ShelfKey}

unequal : (a b : ℕ) → a ≤ b → nat_eq b a ≡ false → a + 1 ≤ b
unequal a b h e = grind (arith, nat_tests)

-- ---- lists of what has a number

module _ {E : Type 0} (number : E → ℕ) where
  -- those of one number
  abbrev of : ℕ → List E → List E
  of n xs = filter (λ x. nat_eq (number x) n) xs

  -- those of each of some numbers, one number after the other
  abbrev groups : ℕ → ℕ → List E → List E
  groups a n xs = flat_map (λ s. of s xs) (range_with_len a n)

  -- their numbers do not fall
  abbrev Rises : List E → Type 0
  Rises [] = ⊤
  Rises (x ∷ xs) = AllByRecursion (λ y. number x ≤ number y) xs × Rises xs

  -- none has a number below all of theirs
  none : (a m : ℕ) (xs : List E) → a < m → AllByRecursion (λ y. m ≤ number y) xs → of a xs ≡ []
  none a m [] h all = refl
  none a m (x ∷ xs) h all = by_case (nat_eq (number x) a) refl (none a m xs h all.1)
    where
      by_case : (b : Bool) → nat_eq (number x) a ≡ b → of a xs ≡ [] → cond b (x ∷ of a xs) (of a xs) ≡ []
      by_case true e rest = let same = eqb-true (number x) a e in let least = all.0 in absurd (omega arith)
      by_case false e rest = rest

  -- one of another number
  other : (x : E) (a : ℕ) (xs : List E) → nat_eq (number x) a ≡ false → of a (x ∷ xs) ≡ of a xs
  other x a xs e = ap (λ b. cond b (x ∷ of a xs) (of a xs)) e

  -- one of a number below some
  past : (x : E) (a n : ℕ) (xs : List E) → number x < a → groups a n (x ∷ xs) ≡ groups a n xs
  past x a zero xs h = refl
  past x a (suc n) xs h =
      (λ i. other x a xs (ne_eqb (number x) a (λ e. omega (arith, e, h))) i ++ groups (a + 1) n (x ∷ xs))
      ∙ ap (λ ys. of a xs ++ ys) (past x (a + 1) n xs (omega arith))

  -- the first of those whose numbers do not fall
  step : (x : E) (xs : List E) (a n : ℕ) → AllByRecursion (λ y. number x ≤ number y) xs → a ≤ number x → number x < a + n
      → groups a n (x ∷ xs) ≡ x ∷ groups a n xs
  step x xs a zero all above below = absurd (omega arith)
  step x xs a (suc n) all above below = by_case (nat_eq (number x) a) refl (λ higher. step x xs (a + 1) n all higher (omega arith))
    where
      by_case : (b : Bool) → nat_eq (number x) a ≡ b → (a + 1 ≤ number x → groups (a + 1) n (x ∷ xs) ≡ x ∷ groups (a + 1) n xs)
          → cond b (x ∷ of a xs) (of a xs) ++ groups (a + 1) n (x ∷ xs) ≡ x ∷ (of a xs ++ groups (a + 1) n xs)
      by_case true e later = let same = eqb-true (number x) a e in ap (λ ys. x ∷ (of a xs ++ ys)) (past x (a + 1) n xs (omega arith))
      by_case false e later =
          let higher = unequal a (number x) above e in
          let nothing = none a (number x) xs (omega arith) all in
          ap (λ ys. ys ++ groups (a + 1) n (x ∷ xs)) nothing ∙ later higher ∙ ap (λ ys. x ∷ (ys ++ groups (a + 1) n xs)) (sym nothing)

  no_groups : (a n : ℕ) → groups a n [] ≡ []
  no_groups a zero = refl
  no_groups a (suc n) = no_groups (a + 1) n

  -- the groups are all, in their order
  all_groups : (n : ℕ) (xs : List E) → Rises xs → AllByRecursion (λ x. number x < n) xs → groups 0 n xs ≡ xs
  all_groups n [] rises below = no_groups 0 n
  all_groups n (x ∷ xs) rises below =
      let least = below.0 in
      step x xs 0 n rises.0 (omega arith) (omega arith) ∙ ap (λ ys. x ∷ ys) (all_groups n xs rises.1 below.1)

  module _ {X : Type 0} (f : E → X) (g : ℕ → E → X) (is : (x : E) → f x ≡ g (number x) x) where
    -- what is made of those of one number
    made_of : (s : ℕ) (xs : List E) → map f (of s xs) ≡ map (g s) (of s xs)
    made_of s [] = refl
    made_of s (x ∷ xs) = by_case (nat_eq (number x) s) refl (made_of s xs)
      where
        by_case : (b : Bool) → nat_eq (number x) s ≡ b → map f (of s xs) ≡ map (g s) (of s xs)
            → map f (cond b (x ∷ of s xs) (of s xs)) ≡ map (g s) (cond b (x ∷ of s xs) (of s xs))
        by_case true e rest =
            let this : f x ≡ g s x = is x ∙ ap (λ k. g k x) (eqb-true (number x) s e) in
            λ i. this i ∷ rest i
        by_case false e rest = rest

    made_of_all : (xs : List E) (numbers : List ℕ) → map f (flat_map (λ s. of s xs) numbers) ≡ flat_map (λ s. map (g s) (of s xs)) numbers
    made_of_all xs [] = refl
    made_of_all xs (s ∷ numbers) =
        map-append f (of s xs) (flat_map (λ k. of k xs) numbers)
        ∙ (λ i. made_of s xs i ++ made_of_all xs numbers i)

    -- what is made of all is what is made of those of each number, one number after the other
    pub made_by_number : (n : ℕ) (xs : List E) → Rises xs → AllByRecursion (λ x. number x < n) xs
        → map f xs ≡ flat_map (λ s. map (g s) (of s xs)) (range_with_len 0 n)
    made_by_number n xs rises below = ap (map f) (sym (all_groups n xs rises below)) ∙ made_of_all xs (range_with_len 0 n)

-- ---- the order of the shelves

abbrev Standing : Type 0
Standing = ShelfKey × Item

abbrev pub suite_on : Standing → ℕ
suite_on entry = entry.0.suite

first_not_greater : (o p : Ordering) → T (is_lt (ordering_then o p)) → is_le o ≡ true
first_not_greater Less p h = refl
first_not_greater Equal p h = refl
first_not_greater Greater p h = absurd h

not_greater : (a b : ShelfKey) → T (is_lt (key_order a b)) → a.suite ≤ b.suite
unfolding key_order
not_greater a b h = le_from_is_le a.suite b.suite (first_not_greater (nat_cmp a.suite b.suite) _ h)

above_first : (key : ShelfKey) (es : List Standing) → T (below_all key_order key es) → AllByRecursion (λ e. key.suite ≤ suite_on e) es
above_first key [] below = tt
above_first key (e ∷ es) below =
    let here = and_left (is_lt (key_order key e.0)) (below_all key_order key es) below in
    let rest = and_right (is_lt (key_order key e.0)) (below_all key_order key es) below in
    (not_greater key e.0 here, above_first key es rest)

rising : (es : List Standing) → T (is_sorted key_order es) → Rises suite_on es
rising [] sorted = tt
rising (e ∷ es) sorted =
    let below = and_left (below_all key_order e.0 es) (is_sorted key_order es) sorted in
    let rest = and_right (below_all key_order e.0 es) (is_sorted key_order es) sorted in
    (above_first e.0 es below, rising es rest)

-- what is made of all that suites show, suite by suite
pub made_by_suite : {X : Type 0} (f : Standing → X) (g : ℕ → Standing → X) → ((e : Standing) → f e ≡ g (suite_on e) e) → (n : ℕ) (shelves : ShelvesValue)
    → AllByRecursion (λ e. suite_on e < n) (entries shelves)
    → map f (entries shelves) ≡ flat_map (λ s. map (g s) (filter (λ e. nat_eq (suite_on e) s) (entries shelves))) (range_with_len 0 n)
made_by_suite f g is n shelves below = made_by_number suite_on f g is n (entries shelves) (rising (entries shelves) (entries_sorted shelves)) below
