-- Rows of different keys may be put into a table in any order.
use Rattle.std.proofs.Common.{◌≡◌, ℤ, ◌<ℤ◌, Bool, true, false, not, cond, List, [], ◌∷◌, map, filter, fold, refl, sym, ap, ap₂, ◌∙◌, arith, Ordering, Less, Equal, Greater, int_cmp, int_eq, IsPermutation, true≢false}
use Rattle.std.specs.List.{AllByRecursion}
use Rattle.std.specs.Ordering.{match_ordering}
use Rattle.std.proofs.lemmas.Int.{ints}
use Rattle.std.proofs.lemmas.List.Sorted.{IsPermutation-refl, IsPermutation-trans, IsPermutation-append_left, IsPermutation-append_right, IsPermutation-append_comm}
use Rattle.sqlite_keyed.specs.Keyed.{IsKeyedBy, insert_by}
use Rattle.sqlite_keyed.specs.Lists.{update_where, delete_where}
use Rattle.sqlite_keyed.proofs.ListLemmas.{along_permutation, all-filter, all_map, all_weaker}
use Rattle.sqlite_keyed.proofs.KeyedLemmas.{Less-from_lt}

module _ {X : Type 0} (key : X → ℤ) where
  turned : (x y : X) → int_eq (key x) (key y) ≡ false → (base : List X) → insert_by key (insert_by key base x) y ≡ insert_by key (insert_by key base y) x
  turned x y apart [] = go (int_cmp (key x) (key y)) refl
    where
      go : (o : Ordering) → int_cmp (key x) (key y) ≡ o → match_ordering o (x ∷ y ∷ []) (y ∷ []) (y ∷ x ∷ []) ≡ match_ordering (int_cmp (key y) (key x)) (y ∷ x ∷ []) (x ∷ []) (x ∷ y ∷ [])
      go Less e = let back : int_cmp (key y) (key x) ≡ Greater = grind (arith, ints) in rw back
      go Equal e = absurd (let same : int_eq (key x) (key y) ≡ true = grind (arith, ints) in true≢false (sym same ∙ apart))
      go Greater e = let back : int_cmp (key y) (key x) ≡ Less = grind (arith, ints) in rw back
  turned x y apart (b ∷ bs) = go (int_cmp (key b) (key x)) (int_cmp (key b) (key y)) refl refl (turned x y apart bs)
    where
      go : (o p : Ordering) → int_cmp (key b) (key x) ≡ o → int_cmp (key b) (key y) ≡ p → insert_by key (insert_by key bs x) y ≡ insert_by key (insert_by key bs y) x
          → insert_by key (match_ordering o (b ∷ insert_by key bs x) (x ∷ bs) (x ∷ b ∷ bs)) y ≡ insert_by key (match_ordering p (b ∷ insert_by key bs y) (y ∷ bs) (y ∷ b ∷ bs)) x
      go Less Less e f more = rw (e, f) (ap (λ l. b ∷ l) more)
      go Less Equal e f more = let k : int_cmp (key y) (key x) ≡ Less = grind (arith, ints) in rw (f, k)
      go Less Greater e f more = let k : int_cmp (key y) (key x) ≡ Less = grind (arith, ints) in rw (f, k, e)
      go Equal Less e f more = let k : int_cmp (key x) (key y) ≡ Less = grind (arith, ints) in rw (e, k)
      go Equal Equal e f more = absurd (let same : int_eq (key x) (key y) ≡ true = grind (arith, ints) in true≢false (sym same ∙ apart))
      go Equal Greater e f more =
          let k : int_cmp (key x) (key y) ≡ Greater = grind (arith, ints) in let j : int_cmp (key y) (key x) ≡ Less = grind (arith, ints) in rw (k, j, e)
      go Greater Less e f more = let k : int_cmp (key x) (key y) ≡ Less = grind (arith, ints) in rw (k, f, e)
      go Greater Equal e f more =
          let k : int_cmp (key x) (key y) ≡ Less = grind (arith, ints) in let j : int_cmp (key y) (key x) ≡ Greater = grind (arith, ints) in rw (k, j, f)
      go Greater Greater e f more = last (int_cmp (key x) (key y)) refl
        where
          last : (q : Ordering) → int_cmp (key x) (key y) ≡ q → match_ordering q (x ∷ insert_by key (b ∷ bs) y) (y ∷ b ∷ bs) (y ∷ x ∷ b ∷ bs) ≡ insert_by key (y ∷ b ∷ bs) x
          last Less k = let j : int_cmp (key y) (key x) ≡ Greater = grind (arith, ints) in rw (j, f)
          last Equal k = absurd (let same : int_eq (key x) (key y) ≡ true = grind (arith, ints) in true≢false (sym same ∙ apart))
          last Greater k = let j : int_cmp (key y) (key x) ≡ Less = grind (arith, ints) in rw (j, e)

  -- each two differ in their keys
  abbrev IsApartFrom : ℤ → List X → Type 0
  IsApartFrom k = AllByRecursion (λ y. int_eq k (key y) ≡ false)

  abbrev AreApart : List X → Type 0
  AreApart [] = Unit {0}
  AreApart (x ∷ xs) = IsApartFrom (key x) xs × AreApart xs

  record SameFold (xs ys : List X) : Type 0 where
    outside : (k : ℤ) → IsApartFrom k xs → IsApartFrom k ys
    inside : AreApart xs → AreApart ys
    folds : AreApart xs → (base : List X) → fold (insert_by key) base xs ≡ fold (insert_by key) base ys

  same_fold : (xs ys : List X) → IsPermutation xs ys → SameFold xs ys
  same_fold = along_permutation SameFold
      (λ xs. record { outside = λ k h. h; inside = λ h. h; folds = λ h base. refl })
      (λ x xs ys h. record { outside = λ k all. (all.0, h.outside k all.1); inside = λ all. (h.outside (key x) all.0, h.inside all.1); folds = λ all base. h.folds all.1 (insert_by key base x) })
      (λ x y xs. record {
        outside = λ k all. (all.1.0, (all.0, all.1.1));
        inside = λ all. ((let e = all.0.0 in grind (arith, ints), all.1.0), (all.0.1, all.1.1));
        folds = λ all base. ap (λ l. fold (insert_by key) l xs) (turned x y all.0.0 base);
      })
      (λ xs ys zs h k. record { outside = λ n all. k.outside n (h.outside n all); inside = λ all. k.inside (h.inside all); folds = λ all base. h.folds all base ∙ k.folds (h.inside all) base })

  apart_if_rises : (xs : List X) → IsKeyedBy key xs → AreApart xs
  apart_if_rises [] up = tt
  apart_if_rises (x ∷ xs) up = (all_weaker _ (λ y. int_eq (key x) (key y) ≡ false) (λ y h. grind (arith, ints)) xs up.0, apart_if_rises xs up.1)

  pub in_any_order : (xs ys : List X) → IsKeyedBy key xs → IsPermutation xs ys → (base : List X) → fold (insert_by key) base xs ≡ fold (insert_by key) base ys
  in_any_order xs ys up same = (same_fold xs ys same).folds (apart_if_rises xs up)

  puts_past : (news : List X) (x : X) (xs : List X) → AllByRecursion (λ n. key x <ℤ key n) news → fold (insert_by key) (x ∷ xs) news ≡ x ∷ fold (insert_by key) xs news
  puts_past [] x xs above = refl
  puts_past (n ∷ news) x xs above = rw (Less-from_lt (key x) (key n) above.0) (puts_past news x (insert_by key xs n) above.1)

  put_first : (new : X) (xs : List X) → AllByRecursion (λ x. key new <ℤ key x) xs → insert_by key xs new ≡ new ∷ xs
  put_first new [] above = refl
  put_first new (x ∷ xs) above = let k = above.0 in let e : int_cmp (key x) (key new) ≡ Greater = grind (arith, ints) in rw e

  -- rows that are taken out, changed and put back
  pub puts_back : (p : X → Bool) (f : X → X) → ((x : X) → key (f x) ≡ key x) → (xs : List X) → IsKeyedBy key xs
      → fold (insert_by key) (delete_where p xs) (map f (filter p xs)) ≡ update_where p f xs
  puts_back p f keeps [] up = refl
  puts_back p f keeps (x ∷ xs) up = go (p x) (puts_back p f keeps xs up.1)
    where
      above : (y : X) → key y ≡ key x → AllByRecursion (λ n. key y <ℤ key n) (map f (filter p xs))
      above y same = all_map _ f _ (all-filter _ p xs (all_weaker _ (λ n. key y <ℤ key (f n)) (λ n h. rw (same, keeps n) h) xs up.0))

      go : (b : Bool) → fold (insert_by key) (delete_where p xs) (map f (filter p xs)) ≡ update_where p f xs
          → fold (insert_by key) (cond (not b) (x ∷ delete_where p xs) (delete_where p xs)) (map f (cond b (x ∷ filter p xs) (filter p xs))) ≡ cond b (f x) x ∷ update_where p f xs
      go true more =
          ap (λ l. fold (insert_by key) l (map f (filter p xs)))
          (put_first (f x) (delete_where p xs) (all-filter _ (λ y. not (p y)) xs (all_weaker _ (λ y. key (f x) <ℤ key y) (λ y h. rw (keeps x) h) xs up.0)))
          ∙ puts_past _ (f x) (delete_where p xs) (above (f x) (keeps x)) ∙ ap (λ l. f x ∷ l) more
      go false more = puts_past _ x (delete_where p xs) (above x refl) ∙ ap (λ l. x ∷ l) more

-- a list that is a permutation of images is the images of a permutation
pub record IsImage {X Y : Type 0} (f : X → Y) (xs : List X) (rows : List Y) : Type 0 where
  pub of : List X
  pub same : IsPermutation xs of
  pub are : rows ≡ map f of

module _ {X Y : Type 0} (f : X → Y) where
  record Images (rows others : List Y) : Type 0 where
    from : (xs : List X) → rows ≡ map f xs → IsImage f xs others

  images : (rows others : List Y) → IsPermutation rows others → Images rows others
  images = along_permutation Images
      (λ rows. record { from = λ xs e. record { of = xs; same = IsPermutation-refl xs; are = e } })
      skip turn
      (λ rows mid others h k. record {
        from = λ xs e.
            let first = h.from xs e in let second = k.from first.of first.are in
            record { of = second.of; same = IsPermutation-trans xs first.of second.of first.same second.same; are = second.are };
      })
    where
      skip : (row : Y) (rows others : List Y) → Images rows others → Images (row ∷ rows) (row ∷ others)
      skip row rows others h = record {
        from = elim [
          | [] ↦ λ e. cc
          | x ∷ xs ↦ λ e.
              let more = h.from xs (let k : rows ≡ map f xs = cc in k) in
              record { of = x ∷ more.of; same = IsPermutation-append_right (x ∷ []) xs more.of more.same; are = ap₂ ◌∷◌ (let k : row ≡ f x = cc in k) more.are }
        ];
      }

      turn : (a b : Y) (rows : List Y) → Images (a ∷ b ∷ rows) (b ∷ a ∷ rows)
      turn a b rows = record {
        from = elim [
          | [] ↦ λ e. cc
          | x ∷ [] ↦ λ e. cc
          | x ∷ y ∷ xs ↦ λ e. record {
            of = y ∷ x ∷ xs;
            same = IsPermutation-append_left xs (x ∷ y ∷ []) (y ∷ x ∷ []) (IsPermutation-append_comm (x ∷ []) (y ∷ []));
            are = ap₂ ◌∷◌ (let k : b ≡ f y = cc in k) (ap₂ ◌∷◌ (let k : a ≡ f x = cc in k) (let k : rows ≡ map f xs = cc in k));
          }
        ];
      }

  pub image_of : (xs : List X) (rows : List Y) → IsPermutation (map f xs) rows → IsImage f xs rows
  image_of xs rows same = (images (map f xs) rows same).from xs refl
