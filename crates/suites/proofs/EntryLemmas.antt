-- Lists of entries in the order of their keys, and look-ups in them.
use Rattle.std.proofs.Common.{◌≡◌, ◌≢◌, ℕ, zero, suc, ◌<◌, Bool, true, false, cond, ◌&&◌, List, [], ◌∷◌, length, get_or, refl, sym, ap, subst, ◌∙◌, Some, None, arith}
use Rattle.std.specs.Prelude.{All, T, filter}
use Rattle.std.specs.List.{AllByRecursion}
use Rattle.std.specs.List.Sorted.{IsStrictlySortedBy}
use Rattle.std.specs.Map.{keys_of}
use Rattle.std.proofs.lemmas.Map.Keys.{sorted_head, sorted_tail}
use Rattle.std.specs.declared.cmp.Ordering.{Ordering}
use Rattle.std.specs.declared.cmp.Ordering.TheVariants.{Less, Equal, Greater}
use Rattle.std.specs.Ordering.{eq_by_cmp, is_eq, is_lt}
use Rattle.std.specs.Cmp.{IsTotalOrder, eq_by_cmp_equiv}
use Rattle.std.specs.FinMap.{find, is_sorted, IsAntisymmetric}
use Rattle.std.specs.FinMap.Entries.{below_all}

pub and_left : (a b : Bool) → T (a && b) → T a
and_left true b h = tt
and_left false b h = absurd h

pub and_right : (a b : Bool) → T (a && b) → T b
and_right true b h = h
and_right false b h = absurd h

pub and_T : (a b : Bool) → T a → T b → T (a && b)
and_T true b p q = q
and_T false b p q = p

pub less_apart : (r : Ordering) → T (is_lt r) → is_eq r ≡ false
less_apart Less h = refl
less_apart Equal h = absurd h
less_apart Greater h = refl

pub tied_keys : (r : Ordering) → is_eq r ≡ true → r ≡ Equal
tied_keys Less e = cc
tied_keys Equal e = refl
tied_keys Greater e = cc

pub same_keys : {K : Type 0} {R : K → K → Ordering} → IsAntisymmetric R → (q k : K) → eq_by_cmp R q k ≡ true → q ≡ k
same_keys {R = R} same q k tied = same q k (tied_keys (R q k) tied)

module _ {K X : Type 0} (R : K → K → Ordering) where
  below_ordered : (k : K) (es : List (K × X)) → AllByRecursion (λ y. R k y ≡ Less) (keys_of es) → T (below_all R k es)
  below_ordered k [] h = tt
  below_ordered k (e ∷ es) h = and_T (is_lt (R k e.0)) (below_all R k es) (subst (λ (o : Ordering). T (is_lt o)) (sym h.0) tt) (below_ordered k es h.1)

  -- the entries of a `BTreeMap`
  pub sorted_ordered : (es : List (K × X)) → IsStrictlySortedBy R (keys_of es) → T (is_sorted R es)
  sorted_ordered [] h = tt
  sorted_ordered (e ∷ es) h = and_T _ _ (below_ordered e.0 es (sorted_head R e.0 (keys_of es) h)) (sorted_ordered es (sorted_tail R e.0 (keys_of es) h))

  pub below-filter : (k : K) (p : K × X → Bool) (es : List (K × X)) → T (below_all R k es) → T (below_all R k (filter p es))
  below-filter k p [] below = tt
  below-filter k p (e ∷ es) below =
      let rest = below-filter k p es (and_right (is_lt (R k e.0)) _ below) in
      elim (p e) as (λ b. T (below_all R k (cond b (e ∷ filter p es) (filter p es)))) [ true ↦ and_T _ _ (and_left _ _ below) rest | false ↦ rest ]

  pub sorted-filter : (p : K × X → Bool) (es : List (K × X)) → T (is_sorted R es) → T (is_sorted R (filter p es))
  sorted-filter p [] sorted = tt
  sorted-filter p (e ∷ es) sorted =
      let rest = sorted-filter p es (and_right (below_all R e.0 es) _ sorted) in
      elim (p e) as (λ b. T (is_sorted R (cond b (e ∷ filter p es) (filter p es)))) [
        | true ↦ and_T _ _ (below-filter e.0 p es (and_left _ _ sorted)) rest
        | false ↦ rest
      ]

  pub below-at : (k : K) (es : List (K × X)) (i : ℕ) (d : K × X) → i < length es → T (below_all R k es) → T (is_lt (R k (get_or es i d).0))
  below-at k [] i d lt below = absurd (omega arith)
  below-at k (e ∷ es) zero d lt below = and_left _ _ below
  below-at k (e ∷ es) (suc i) d lt below = below-at k es i d (omega arith) (and_right (is_lt (R k e.0)) _ below)

module _ {K X : Type 0} {R : K → K → Ordering} (o : IsTotalOrder R) where
  -- the first key of a list in order ties with none after it
  pub tied_behind : (k q : K) (es : List (K × X)) → T (below_all R k es) → eq_by_cmp R q k ≡ true → find R q es ≡ None
  tied_behind k q [] below tied = refl
  tied_behind k q (e ∷ es) below tied =
      ap (λ b. cond b (Some e.1) (find R q es)) ((eq_by_cmp_equiv o).congr q k e.0 tied ∙ less_apart (R k e.0) (and_left _ _ below))
      ∙ tied_behind k q es (and_right (is_lt (R k e.0)) _ below) tied

  -- each entry of a list in order is found at its key
  pub found_at : (es : List (K × X)) → T (is_sorted R es) → All (λ e. find R e.0 es ≡ Some e.1) es
  found_at [] sorted i d lt = absurd (omega arith)
  found_at (e ∷ es) sorted zero d lt = ap (λ b. cond b (Some e.1) (find R e.0 es)) ((eq_by_cmp_equiv o).refl e.0)
  found_at (e ∷ es) sorted (suc i) d lt =
      let f = get_or es i d in
      let within : i < length es = omega arith in
      ap (λ b. cond b (Some e.1) (find R f.0 es))
      ((eq_by_cmp_equiv o).symm f.0 e.0 ∙ less_apart (R e.0 f.0) (below-at R e.0 es i d within (and_left (below_all R e.0 es) (is_sorted R es) sorted)))
      ∙ found_at es (and_right (below_all R e.0 es) _ sorted) i d within

  module _ (same : IsAntisymmetric R) where
    -- a key that none of the entries has is not found
    pub find-none : (k : K) (es : List (K × X)) → AllByRecursion (λ e. k ≢ e.0) es → find R k es ≡ None
    find-none k [] apart = refl
    find-none k (e ∷ es) apart =
        elim (eq_by_cmp R k e.0) as (λ b. eq_by_cmp R k e.0 ≡ b → cond b (Some e.1) (find R k es) ≡ None) [
          | true ↦ λ tied. absurd (apart.0 (same_keys same k e.0 tied))
          | false ↦ λ other. find-none k es apart.1
        ] refl
