-- A binary search in entries whose keys are in order finds the key exactly if there is an entry of it.
use Rattle.std.proofs.Common.{◌≡◌, ℕ, zero, suc, ◌<◌, ◌≤◌, Bool, true, false, cond, ◌&&◌, List, [], ◌∷◌, length, get_or, refl, sym, ap, ◌∙◌, arith, Some, Result, Ok, Err, ltb-true, ltb-false}
use Rattle.std.specs.Prelude.{T, is_some, is_ok, nat_lt}
use Rattle.std.specs.declared.cmp.Ordering.{Ordering}
use Rattle.std.specs.declared.cmp.Ordering.TheVariants.{Less, Equal, Greater}
use Rattle.std.specs.Ordering.{eq_by_cmp, is_eq, is_lt, ordering_index}
use Rattle.std.specs.Cmp.{IsTotalOrder, eq_by_cmp_equiv, tied_back, alike_right}
use Rattle.std.specs.FinMap.{find, is_sorted}
use Rattle.std.specs.FinMap.Entries.{below_all}
use Rattle.std.specs.List.Sorted.{IsBinarySearchResult, IsSearchInRange, IsNonDecreasingBy}

left : (a b : Bool) → T (a && b) → T a
left true b h = tt
left false b h = absurd h

right : (a b : Bool) → T (a && b) → T b
right true b h = h
right false b h = absurd h

less : (r : Ordering) → T (is_lt r) → r ≡ Less
less Less h = refl
less Equal h = absurd h
less Greater h = absurd h

rises : {K : Type 0} {R : K → K → Ordering} → IsTotalOrder R → (a b k : K) → R a b ≡ Less → ordering_index (R a k) ≤ ordering_index (R b k)
rises {R = R} o a b k h = by_kind (R b k) refl
  where
    most : (r : Ordering) → ordering_index r ≤ 2
    most Less = omega arith
    most Equal = omega arith
    most Greater = omega arith

    by_kind : (r : Ordering) → R b k ≡ r → ordering_index (R a k) ≤ ordering_index r
    by_kind Less e = rw (o.trans a b k h e) (omega arith)
    by_kind Equal e = rw (sym (alike_right o b k a e) ∙ h) (omega arith)
    by_kind Greater e = most (R a k)

module _ {K X : Type 0} {R : K → K → Ordering} (o : IsTotalOrder R) where
  below_at : (a : K) (es : List (K × X)) (j : ℕ) (d : K × X) → T (below_all R a es) → j < length es → R a (get_or es j d).0 ≡ Less
  below_at a [] j d h lt = absurd (omega (arith, lt))
  below_at a (e ∷ es) zero d h lt = less (R a e.0) (left (is_lt (R a e.0)) (below_all R a es) h)
  below_at a (e ∷ es) (suc j) d h lt = below_at a es j d (right (is_lt (R a e.0)) (below_all R a es) h) (omega (arith, lt))

  rising : (k : K) (es : List (K × X)) → T (is_sorted R es) → IsNonDecreasingBy (λ (e : K × X). ordering_index (R e.0 k)) es
  rising k [] s i j d le lt = absurd (omega (arith, lt))
  rising k (e ∷ es) s zero zero d le lt = omega arith
  rising k (e ∷ es) s zero (suc j) d le lt = rises o e.0 (get_or es j d).0 k (below_at e.0 es j d (left (below_all R e.0 es) (is_sorted R es) s) (omega (arith, lt)))
  rising k (e ∷ es) s (suc i) zero d le lt = absurd (omega (arith, le))
  rising k (e ∷ es) s (suc i) (suc j) d le lt = rising k es (right (below_all R e.0 es) (is_sorted R es) s) i j d (omega (arith, le)) (omega (arith, lt))

  found_at : (k : K) (es : List (K × X)) (i : ℕ) → i < length es → ((d : K × X) → R (get_or es i d).0 k ≡ Equal) → true ≡ is_some (find R k es)
  found_at k [] i lt h = absurd (omega (arith, lt))
  found_at k (e ∷ es) zero lt h = ap (λ r. is_some (cond (is_eq r) (Some e.1) (find R k es))) (sym (tied_back o e.0 k (h e)))
  found_at k (e ∷ es) (suc i) lt h = either (eq_by_cmp R k e.0) (found_at k es i (omega (arith, lt)) h)
    where
      either : (b : Bool) → true ≡ is_some (find R k es) → true ≡ is_some (cond b (Some e.1) (find R k es))
      either true t = refl
      either false t = t

  not_found : (k : K) (es : List (K × X)) → ((j : ℕ) (d : K × X) → j < length es → is_eq (R (get_or es j d).0 k) ≡ false) → false ≡ is_some (find R k es)
  not_found k [] h = refl
  not_found k (e ∷ es) h =
      not_found k es (λ j d lt. h (suc j) d (omega (arith, lt)))
      ∙ ap (λ b. is_some (cond b (Some e.1) (find R k es))) (sym (other (h 0 e (omega arith))))
    where
      other : is_eq (R e.0 k) ≡ false → eq_by_cmp R k e.0 ≡ false
      other apart = (eq_by_cmp_equiv o).symm k e.0 ∙ apart

  pub searched : (k : K) (es : List (K × X)) (r : Result ℕ ℕ) → T (is_sorted R es) → IsSearchInRange r (length es) → IsBinarySearchResult (λ (e : K × X). R e.0 k) es r → is_ok r ≡ is_some (find R k es)
  searched k es (Ok i) s bound at = found_at k es i bound at
  searched k es (Err i) s bound at =
      let parts = at (rising k es s) in
      not_found k es (λ j d lt. by_kind j d lt parts.0 parts.1 (nat_lt j i) refl)
    where
      by_kind : (j : ℕ) (d : K × X) → j < length es
          → ((n : ℕ) (d : K × X) → 0 ≤ n → n < i → R (get_or es n d).0 k ≡ Less)
          → ((n : ℕ) (d : K × X) → i ≤ n → n < length es → R (get_or es n d).0 k ≡ Greater)
          → (b : Bool) → nat_lt j i ≡ b → is_eq (R (get_or es j d).0 k) ≡ false
      by_kind j d lt before after true t = ap is_eq (before j d (omega arith) (ltb-true j i t))
      by_kind j d lt before after false t = ap is_eq (after j d (ltb-false j i t) lt)
