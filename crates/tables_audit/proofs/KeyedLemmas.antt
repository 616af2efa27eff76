-- Which of the rows are those of a number, and what is found among them.
use Rattle.std.proofs.Common.{◌≡◌, ℕ, zero, suc, ◌+◌, ◌<◌, ◌≤◌, Bool, true, false, cond, nat_eq, nat_le, ◌&&◌, ◌||◌, List, [], ◌∷◌, ◌++◌, map, filter, find, take, drop, length, get_or, slice_get, All, refl, sym, ap, ◌∙◌, arith}
use Rattle.std.specs.Prelude.{◌↔◌}
use Rattle.std.specs.List.{AllWithin, list_any}
use Rattle.std.specs.List.Sorted.{IsNonDecreasingBy, IsPartitionPoint}
use Rattle.std.proofs.lemmas.Bool.{and_from, and_parts, le-leb, leb-true, ne_eqb}
use Rattle.std.proofs.lemmas.List.{append-nil, get_or-drop, get_or-take, length-drop, length-take, take-append-drop}
use Rattle.std.proofs.lemmas.List.Elements.{filter-append}
use Rattle.sqlite_keyed.proofs.ListLemmas.{filter-map, slice_get-filter}
use Rattle.tables.specs.Rows.{Numbered, rows_of}
use Rattle.tables_audit.specs.Lookups.{rise_from, with_key}

-- ---- rows in order

module _ {X : Type 0} (key : X → ℕ) where
  none_below : (low : ℕ) (xs : List X) → rise_from key low xs ≡ true → (j : ℕ) (d : X) → j < length xs → low ≤ key (get_or xs j d)
  none_below low [] h j d within = absurd (omega arith)
  none_below low (x ∷ xs) h zero d within = leb-true low (key x) (and_parts (nat_le low (key x)) (rise_from key (key x) xs) h).0
  none_below low (x ∷ xs) h (suc j) d within =
      let p = and_parts (nat_le low (key x)) (rise_from key (key x) xs) h in
      let first : low ≤ key x = leb-true low (key x) p.0 in
      let more : key x ≤ key (get_or xs j d) = none_below (key x) xs p.1 j d (omega arith) in
      omega (arith, first, more)

  order_if : (low : ℕ) (xs : List X) → rise_from key low xs ≡ true → IsNonDecreasingBy key xs
  order_if low [] h i j d le within = absurd (omega arith)
  order_if low (x ∷ xs) h zero zero d le within = omega arith
  order_if low (x ∷ xs) h zero (suc j) d le within = none_below (key x) xs (and_parts (nat_le low (key x)) (rise_from key (key x) xs) h).1 j d (omega arith)
  order_if low (x ∷ xs) h (suc i) zero d le within = absurd (omega arith)
  order_if low (x ∷ xs) h (suc i) (suc j) d le within = order_if (key x) xs (and_parts (nat_le low (key x)) (rise_from key (key x) xs) h).1 i j d (omega arith) (omega arith)

  order_from : (low : ℕ) (xs : List X) → All (λ x. low ≤ key x) xs → IsNonDecreasingBy key xs → rise_from key low xs ≡ true
  order_from low [] bound up = refl
  order_from low (x ∷ xs) bound up =
      and_from (nat_le low (key x)) (rise_from key (key x) xs)
      (le-leb low (key x) (bound 0 x (omega arith)))
      (order_from (key x) xs (λ j d within. up 0 (suc j) d (omega arith) (omega arith)) (λ i j d le within. up (suc i) (suc j) d (omega arith) (omega arith)))

  -- the test is that of the order
  pub order_is : (xs : List X) → (rise_from key 0 xs ≡ true) ↔ IsNonDecreasingBy key xs
  order_is xs = (λ h. order_if 0 xs h, λ up. order_from 0 xs (λ k d within. omega arith) up)

-- ---- the rows of a number

module _ {X : Type 0} (p : X → Bool) where
  none_pass : (xs : List X) → All (λ x. p x ≡ false) xs → filter p xs ≡ []
  none_pass [] none = refl
  none_pass (x ∷ xs) none =
      ap (λ b. cond b (x ∷ filter p xs) (filter p xs)) (none 0 x (omega arith))
      ∙ none_pass xs (λ k d within. none (suc k) d (omega arith))

  in_two : (xs : List X) (n : ℕ) → filter p xs ≡ filter p (take n xs) ++ filter p (drop n xs)
  in_two xs n = ap (filter p) (sym (take-append-drop n xs)) ∙ filter-append p (take n xs) (drop n xs)

  -- the rows that pass are found from a place on, if no row before it passes
  pub passing_from : (xs : List X) (n : ℕ) → AllWithin (λ x. p x ≡ false) xs 0 n → filter p (drop n xs) ≡ filter p xs
  passing_from xs n none =
      let long = length-take n xs in
      sym
      (in_two xs n
      ∙ ap (λ l. l ++ filter p (drop n xs))
      (none_pass (take n xs) (λ k d within. ap p (get_or-take n xs k d (omega arith)) ∙ none k d (omega arith) (omega arith))))

  -- the rows that pass are found up to a place, if no row from it on passes
  pub passing_up_to : (xs : List X) (n : ℕ) → AllWithin (λ x. p x ≡ false) xs n (length xs) → filter p (take n xs) ≡ filter p xs
  passing_up_to xs n none =
      let long = length-drop n xs in
      sym
      (in_two xs n
      ∙ ap (λ l. filter p (take n xs) ++ l)
      (none_pass (drop n xs) (λ k d within. ap p (get_or-drop n xs k d) ∙ none (n + k) d (omega arith) (omega arith)))
      ∙ append-nil (filter p (take n xs)))

module _ {X : Type 0} (key : X → ℕ) (id : ℕ) (rows : List X) (n : ℕ) where
  -- the rows of a number start at the first row whose number is not below it
  pub part_from : IsPartitionPoint (λ x. key x < id) (λ x. id ≤ key x) rows n → with_key key id (drop n rows) ≡ with_key key id rows
  part_from parted =
      passing_from (λ x. nat_eq (key x) id) rows n
      (λ k d from within. let below = parted.0 k d from within in ne_eqb (key (get_or rows k d)) id (λ e. omega arith))

  -- the rows of a number end before the first row of a number above it
  pub part_up_to : IsPartitionPoint (λ x. key x ≤ id) (λ x. id < key x) rows n → with_key key id (take n rows) ≡ with_key key id rows
  part_up_to parted =
      passing_up_to (λ x. nat_eq (key x) id) rows n
      (λ k d from within. let above = parted.1 k d from within in ne_eqb (key (get_or rows k d)) id (λ e. omega arith))

-- ---- what is found among those that pass a test

-- the first element that passes
pub find_same : {X : Type 0} (p : X → Bool) (xs ys : List X) → filter p xs ≡ filter p ys → find p xs ≡ find p ys
find_same p xs ys e = sym (slice_get-filter p xs) ∙ ap (λ l. slice_get l 0) e ∙ slice_get-filter p ys

-- the rows that pass, without their rowids
pub rows_same : {X : Type 0} (p : X → Bool) (xs ys : Numbered X) → filter (λ (x : ℕ × X). p x.1) xs ≡ filter (λ (x : ℕ × X). p x.1) ys → filter p (rows_of xs) ≡ filter p (rows_of ys)
rows_same {X} p xs ys e =
    filter-map p (λ (x : ℕ × X). x.1) xs
    ∙ ap (map (λ (x : ℕ × X). x.1)) e
    ∙ sym (filter-map p (λ (x : ℕ × X). x.1) ys)

-- whether an element that passes also passes another test
pub any_same : {X : Type 0} (p q : X → Bool) (xs ys : List X) → filter p xs ≡ filter p ys → list_any (λ x. p x && q x) xs ≡ list_any (λ x. p x && q x) ys
any_same {X} p q xs ys e = any_passing xs ∙ ap (list_any q) e ∙ sym (any_passing ys)
  where
    any_passing : (zs : List X) → list_any (λ x. p x && q x) zs ≡ list_any q (filter p zs)
    any_passing [] = refl
    any_passing (z ∷ zs) = go (p z) (any_passing zs)
      where
        go : (b : Bool) → list_any (λ x. p x && q x) zs ≡ list_any q (filter p zs) → (b && q z) || list_any (λ x. p x && q x) zs ≡ list_any q (cond b (z ∷ filter p zs) (filter p zs))
        go true more = ap (λ t. q z || t) more
        go false more = more
