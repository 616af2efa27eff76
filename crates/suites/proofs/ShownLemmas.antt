-- Laws of what the suites show.
use Rattle.std.proofs.Common.{◌≡◌, Bool, true, false, cond, ◌||◌, ◌&&◌, not, List, [], ◌∷◌, ◌++◌, refl, sym, ap, ◌∙◌, append_assoc, Option, Some, None, ℕ}
use Rattle.std.specs.Prelude.{T}
use Rattle.std.specs.Option.{option_map_or}
use Rattle.std.specs.List.{list_any, filter}
use Rattle.std.specs.declared.cmp.Ordering.{Ordering}
use Rattle.std.specs.declared.cmp.Ordering.TheVariants.{Less, Equal, Greater}
use Rattle.std.specs.Ordering.{is_lt, is_eq, eq_by_cmp, ordering_reverse}
use Rattle.std.specs.Cmp.{IsEquivalence, eq_by_cmp_equiv}
use Rattle.std.specs.FinMap.{entries, get, insert, find, is_sorted, get-from_entries, get-entries, get-insert, same_map, entries_sorted}
use Rattle.std.specs.FinMap.Entries.{below_all}
use Rattle.vers.specs.Order.{version_cmp}
use Rattle.vers.proofs.Laws.{version_cmp_total}
use Rattle.suites.specs.Held.{held}
use Rattle.suites.specs.Keys.{key_order}
use Rattle.suites.specs.Shelves.{ShelvesWith, is_at_least, is_above, covers, beats, shown, shown_after, is_covered, with_admitted}
use Rattle.suites.specs.declared.key.ShelfKey.{ShelfKey}
use Rattle.suites.specs.KeyLemmas.{key_order_total, key_order-IsAntisymmetric}
use Rattle.std.proofs.lemmas.Bool.{or_left, or_from, and_from, and_right, not-false, and_parts}
use Rattle.suites.proofs.HeldLemmas.{IsRanking, held-push, held_behind-settled, clear-none, Settled, settled-held_behind, any_beats, or_first, or_second, append_nil, by_pushes}
use Rattle.suites.proofs.ListTests.{option_or_none}

same : ShelfKey → ShelfKey → Bool
same = eq_by_cmp key_order

same_laws : IsEquivalence same
unfolding same
same_laws = eq_by_cmp_equiv key_order_total

same-trans : (a b c : ShelfKey) → same a b ≡ true → same b c ≡ true → same a c ≡ true
same-trans a b c p q = same_laws.congr a b c p ∙ q

reversed : (r s : Ordering) → r ≡ ordering_reverse s → is_lt s ≡ true → not (is_lt r) ≡ true
reversed r Less e h = ap (λ o. not (is_lt o)) e
reversed r Equal e h = cc
reversed r Greater e h = cc

pub is_less : (r : Ordering) → is_lt r ≡ true → r ≡ Less
is_less Less e = refl
is_less Equal e = cc
is_less Greater e = cc

pub above-at_least : (v w : List ℕ) → is_above v w ≡ true → is_at_least v w ≡ true
unfolding is_above is_at_least
above-at_least v w h = reversed (version_cmp v w) (version_cmp w v) (version_cmp_total.antisymm v w) h

pub above-not : (v w : List ℕ) → is_above v w ≡ true → is_at_least w v ≡ false
unfolding is_above is_at_least
above-not v w h = ap not h

pub not_at_least : (v w : List ℕ) → is_at_least v w ≡ false → is_above w v ≡ true
unfolding is_above is_at_least
not_at_least v w h = not-false (is_lt (version_cmp v w)) h

less_trans : (u v w : List ℕ) → is_lt (version_cmp u v) ≡ true → is_lt (version_cmp v w) ≡ true → is_lt (version_cmp u w) ≡ true
less_trans u v w p q = ap is_lt (version_cmp_total.trans u v w (is_less _ p) (is_less _ q))

-- u is at least v, and v above w
at_least-above : (u v w : List ℕ) → is_at_least u v ≡ true → is_above v w ≡ true → is_above u w ≡ true
unfolding is_above is_at_least
at_least-above u v w p q =
    elim (version_cmp u v) as (λ r. version_cmp u v ≡ r → not (is_lt r) ≡ true → is_lt (version_cmp w u) ≡ true) [
      | Less ↦ λ e h. cc
      | Equal ↦ λ e h. ap is_lt (version_cmp_total.antisymm w u ∙ ap ordering_reverse (version_cmp_total.congr u v w e ∙ version_cmp_total.antisymm v w ∙ ap ordering_reverse (is_less _ q)))
      | Greater ↦ λ e h. less_trans w v u q (ap is_lt (version_cmp_total.antisymm v u ∙ ap ordering_reverse e))
    ] refl p

-- u is at least v, and v at least w
at_least-trans : (u v w : List ℕ) → is_at_least u v ≡ true → is_at_least v w ≡ true → is_at_least u w ≡ true
unfolding is_above is_at_least
at_least-trans u v w p q =
    elim (is_lt (version_cmp u w)) as (λ r. is_lt (version_cmp u w) ≡ r → not r ≡ true) [
      | true ↦ λ e. let above : is_above w v ≡ true = above_below w u v e p in let apart : is_at_least v w ≡ false = above-not w v above in cc
      | false ↦ λ e. refl
    ] refl
  where
    above_below : (w u v : List ℕ) → is_lt (version_cmp u w) ≡ true → not (is_lt (version_cmp u v)) ≡ true → is_above w v ≡ true
    above_below w u v e p = elim (version_cmp u v) as (λ r. version_cmp u v ≡ r → not (is_lt r) ≡ true → is_lt (version_cmp v w) ≡ true) [
      | Less ↦ λ f h. cc
      | Equal ↦ λ f h. ap is_lt (sym (version_cmp_total.congr u v w f)) ∙ e
      | Greater ↦ λ f h. less_trans v u w (ap is_lt (version_cmp_total.antisymm v u ∙ ap ordering_reverse f)) e
    ] refl p

flipped : (a b : ShelfKey) (t : Bool) → same a b ≡ t → same b a ≡ t
flipped a b t e = same_laws.symm b a ∙ e

pub true_from_T : (b : Bool) → T b → b ≡ true
true_from_T true h = refl
true_from_T false h = absurd h

less_apart : (r : Ordering) → is_lt r ≡ true → is_eq r ≡ false
less_apart Less e = refl
less_apart Equal e = cc
less_apart Greater e = refl

module _ {X : Type 0} (version : X → List ℕ) where
  pub ranking : IsRanking (covers version) (beats version)
  unfolding covers beats same
  ranking = record {
    trans = λ x y z p q. and_from _ _
        (same-trans x.0 y.0 z.0 (and_parts _ _ p).0 (and_parts _ _ q).0)
        (at_least-trans (version x.1) (version y.1) (version z.1) (and_parts _ _ p).1 (and_parts _ _ q).1);
    weaker = λ x y p. and_from _ _ (and_parts _ _ p).0 (above-at_least (version x.1) (version y.1) (and_parts _ _ p).1);
    apart = λ x y p. and_right (same y.0 x.0) _ (above-not (version x.1) (version y.1) (and_parts _ _ p).1);
    above = λ x y z p q. and_from _ _
        (same-trans x.0 y.0 z.0 (and_parts _ _ p).0 (and_parts _ _ q).0)
        (at_least-above (version x.1) (version y.1) (version z.1) (and_parts _ _ p).1 (and_parts _ _ q).1);
  }

  abbrev found : ShelfKey → List (ShelfKey × X) → Option X
  found q items = find key_order q items

  abbrev is_reached : X → X → Bool
  is_reached y x = is_at_least (version x) (version y)

  covers-parts : (x y : ShelfKey × X) (t u : Bool) → same x.0 y.0 ≡ t → is_reached y.1 x.1 ≡ u → covers version x y ≡ (t && u)
  unfolding covers same
  covers-parts x y t u p q = ap (λ b. b && is_at_least (version x.1) (version y.1)) p ∙ ap (λ b. t && b) q

  beats-parts : (x y : ShelfKey × X) (t u : Bool) → same x.0 y.0 ≡ t → is_above (version x.1) (version y.1) ≡ u → beats version x y ≡ (t && u)
  unfolding beats same
  beats-parts x y t u p q = ap (λ b. b && is_above (version x.1) (version y.1)) p ∙ ap (λ b. t && b) q

  -- in a settled list an item is covered exactly by the one that is found at its key
  covered-found : (y : ShelfKey × X) (hs : List (ShelfKey × X)) → Settled (covers version) (beats version) hs → list_any (λ z. covers version z y) hs ≡ option_map_or (is_reached y.1) (found y.0 hs) false
  unfolding same
  covered-found y [] settled = refl
  covered-found y (w ∷ ws) settled =
      let rest = covered-found y ws settled.1.1 in
      elim (same y.0 w.0) as (λ t. same y.0 w.0 ≡ t → (covers version w y || list_any (λ z. covers version z y) ws) ≡ option_map_or (is_reached y.1) (cond t (Some w.1) (found y.0 ws)) false) [
        | true ↦ λ at. elim (is_reached y.1 w.1) as (λ u. is_reached y.1 w.1 ≡ u → (covers version w y || list_any (λ z. covers version z y) ws) ≡ u) [
          | true ↦ λ yes. or_left _ _ (covers-parts w y true true (flipped y.0 w.0 true at) yes)
          | false ↦ λ no. or_from _ _ (covers-parts w y true false (flipped y.0 w.0 true at) no)
              (elim (list_any (λ z. covers version z y) ws) as (λ r. list_any (λ z. covers version z y) ws ≡ r → r ≡ false) [
                | true ↦ λ some. (let beaten : list_any (λ z. beats version z w) ws ≡ true = any_beats (covers version) (beats version) ranking y w ws (beats-parts y w true true at (not_at_least _ _ no)) some in let none : list_any (λ z. beats version z w) ws ≡ false = settled.0 in cc)
                | false ↦ λ none. refl
              ] refl)
        ] refl
        | false ↦ λ at. ap (λ b. b || list_any (λ z. covers version z y) ws) (covers-parts w y false _ (flipped y.0 w.0 false at) refl) ∙ rest
      ] refl

  -- if no item covers y, those at its key go, and no others
  gone-filter : (q : ShelfKey) (y : ShelfKey × X) (hs : List (ShelfKey × X)) → same q y.0 ≡ true → list_any (λ z. covers version z y) hs ≡ false → found q (filter (λ w. not (beats version y w)) hs) ≡ None
  unfolding same
  gone-filter q y [] at none = refl
  gone-filter q y (w ∷ ws) at none =
      let rest = gone-filter q y ws at (or_second (covers version w y) _ none) in
      elim (beats version y w) as (λ b. beats version y w ≡ b → found q (cond (not b) (w ∷ filter (λ v. not (beats version y v)) ws) (filter (λ v. not (beats version y v)) ws)) ≡ None) [
        | true ↦ λ e. rest
        | false ↦ λ e. ap (λ t. cond t (Some w.1) (found q (filter (λ v. not (beats version y v)) ws))) (other e) ∙ rest
      ] refl
    where
      other : beats version y w ≡ false → same q w.0 ≡ false
      other e = elim (same q w.0) as (λ t. same q w.0 ≡ t → t ≡ false) [
        | true ↦ λ tied.
            let here : same y.0 w.0 ≡ true = sym (same_laws.congr q y.0 w.0 at) ∙ tied in
            elim (is_reached y.1 w.1) as (λ u. is_reached y.1 w.1 ≡ u → true ≡ false) [
              | true ↦ λ yes. (let c : covers version w y ≡ true = covers-parts w y true true (flipped y.0 w.0 true here) yes in let n : covers version w y ≡ false = or_first _ _ none in cc)
              | false ↦ λ no. (let b : beats version y w ≡ true = beats-parts y w true true here (not_at_least _ _ no) in cc)
            ] refl
        | false ↦ λ apart. refl
      ] refl

  kept-filter : (q : ShelfKey) (y : ShelfKey × X) (hs : List (ShelfKey × X)) → same q y.0 ≡ false → found q (filter (λ w. not (beats version y w)) hs) ≡ found q hs
  unfolding same
  kept-filter q y [] apart = refl
  kept-filter q y (w ∷ ws) apart =
      let rest = kept-filter q y ws apart in
      elim (beats version y w) as (λ b. beats version y w ≡ b → found q (cond (not b) (w ∷ filter (λ v. not (beats version y v)) ws) (filter (λ v. not (beats version y v)) ws)) ≡ cond (same q w.0) (Some w.1) (found q ws)) [
        | true ↦ λ e. rest ∙ sym (ap (λ t. cond t (Some w.1) (found q ws)) (elsewhere e))
        | false ↦ λ e. ap (cond (same q w.0) (Some w.1)) rest
      ] refl
    where
      beats-same : beats version y w ≡ true → same y.0 w.0 ≡ true
      beats-same e = elim (same y.0 w.0) as (λ t. same y.0 w.0 ≡ t → t ≡ true) [
        | true ↦ λ at. refl
        | false ↦ λ no. (let b : beats version y w ≡ false = beats-parts y w false _ no refl in cc)
      ] refl

      elsewhere : beats version y w ≡ true → same q w.0 ≡ false
      elsewhere e = elim (same q w.0) as (λ t. same q w.0 ≡ t → t ≡ false) [
        | true ↦ λ tied.
            (let at : same y.0 w.0 ≡ true = beats-same e in
            let both : same q y.0 ≡ true = same-trans q w.0 y.0 tied (flipped y.0 w.0 true at) in cc)
        | false ↦ λ no. refl
      ] refl

  abbrev option_or : Option X → Option X → Option X
  option_or (Some x) o = Some x
  option_or None o = o

  found-push : (q : ShelfKey) (hs : List (ShelfKey × X)) (y : ShelfKey × X) → found q (hs ++ y ∷ []) ≡ option_or (found q hs) (cond (same q y.0) (Some y.1) None)
  unfolding same
  found-push q [] y = refl
  found-push q (w ∷ ws) y =
      elim (same q w.0) as (λ t. cond t (Some w.1) (found q (ws ++ y ∷ [])) ≡ option_or (cond t (Some w.1) (found q ws)) (cond (same q y.0) (Some y.1) None)) [
        | true ↦ refl
        | false ↦ found-push q ws y
      ]

  any-apart : (w : ShelfKey × X) (vs : List (ShelfKey × X)) → below_all key_order w.0 vs ≡ true → (list_any (λ y. beats version y w) vs ≡ false) × (list_any (λ y. covers version w y) vs ≡ false)
  unfolding same
  any-apart w [] below = (refl, refl)
  any-apart w (v ∷ vs) below =
      let apart : same w.0 v.0 ≡ false = less_apart (key_order w.0 v.0) (and_parts (is_lt (key_order w.0 v.0)) (below_all key_order w.0 vs) below).0 in
      let rest = any-apart w vs (and_parts (is_lt (key_order w.0 v.0)) (below_all key_order w.0 vs) below).1 in (
        or_from _ _ (beats-parts v w false _ (flipped w.0 v.0 false apart) refl) rest.0,
        or_from _ _ (covers-parts w v false _ apart refl) rest.1,
      )

  settled-sorted : (es : List (ShelfKey × X)) → is_sorted key_order es ≡ true → Settled (covers version) (beats version) es
  settled-sorted [] sorted = tt
  settled-sorted (w ∷ ws) sorted =
      let apart = any-apart w ws (and_parts (below_all key_order w.0 ws) (is_sorted key_order ws) sorted).0 in
      (apart.0, (apart.1, settled-sorted ws (and_parts (below_all key_order w.0 ws) (is_sorted key_order ws) sorted).1))

  held-entries : (m : ShelvesWith X) → held (covers version) (beats version) (entries m) ≡ entries m
  held-entries m = held_behind-settled (covers version) (beats version) [] (entries m) (settled-sorted (entries m) (true_from_T _ (entries_sorted m))) (clear-none (covers version) (beats version) (entries m))

  get-shown : (xs : List (ShelfKey × X)) (q : ShelfKey) → get (shown version xs) q ≡ found q (held (covers version) (beats version) xs)
  unfolding shown
  get-shown xs q = get-from_entries key_order_total (held (covers version) (beats version) xs) q

  -- admitting one more item
  pub shown-push : (xs : List (ShelfKey × X)) (a : ShelfKey × X) → shown version (xs ++ a ∷ []) ≡ with_admitted version (shown version xs) a
  unfolding same
  shown-push xs a = same_map key_order_total key_order-IsAntisymmetric _ _ (λ q.
      let hs : List (ShelfKey × X) = held (covers version) (beats version) xs in
      let covered : is_covered version (shown version xs) a ≡ list_any (λ z. covers version z a) hs =
      ap (λ o. option_map_or (is_reached a.1) o false) (get-shown xs a.0) ∙ sym (covered-found a hs (settled-held_behind (covers version) (beats version) [] xs)) in
      get-shown (xs ++ a ∷ []) q
      ∙ ap (found q) (held-push (covers version) (beats version) ranking xs a)
      ∙ elim (list_any (λ z. covers version z a) hs) as (λ t. list_any (λ z. covers version z a) hs ≡ t → found q (cond t hs (filter (λ w. not (beats version a w)) hs ++ a ∷ [])) ≡ get (cond t (shown version xs) (insert (shown version xs) a.0 a.1)) q) [
        | true ↦ λ e. sym (get-shown xs q)
        | false ↦ λ e. found-push q (filter (λ w. not (beats version a w)) hs) a
            ∙ (elim (same q a.0) as (λ t. same q a.0 ≡ t → option_or (found q (filter (λ w. not (beats version a w)) hs)) (cond t (Some a.1) None) ≡ cond t (Some a.1) (get (shown version xs) q)) [
              | true ↦ λ at. ap (λ o. option_or o (Some a.1)) (gone-filter q a hs at e)
              | false ↦ λ at. option_or_none (found q (filter (λ w. not (beats version a w)) hs)) ∙ kept-filter q a hs at ∙ sym (get-shown xs q)
            ] refl)
            ∙ sym (get-insert key_order_total (shown version xs) a.0 a.1 q)
      ] refl
      ∙ ap (λ t. get (cond t (shown version xs) (insert (shown version xs) a.0 a.1)) q) (sym covered))

  -- nothing admitted, nothing changed
  pub shown_after-none : (m : ShelvesWith X) → shown_after version m [] ≡ m
  shown_after-none m = same_map key_order_total key_order-IsAntisymmetric _ _ (λ q.
      get-shown (entries m ++ []) q
      ∙ ap (λ es. found q (held (covers version) (beats version) es)) (append_nil (entries m))
      ∙ ap (found q) (held-entries m)
      ∙ sym (get-entries m q))

  pub shown_after-push : (m : ShelvesWith X) (xs : List (ShelfKey × X)) (a : ShelfKey × X) → shown_after version m (xs ++ a ∷ []) ≡ with_admitted version (shown_after version m xs) a
  shown_after-push m xs a = ap (shown version) (sym (append_assoc (entries m) xs (a ∷ []))) ∙ shown-push (entries m ++ xs) a

  -- What is shown says all that matters of what was ever admitted.
  pub shown_after-shown : (xs ys : List (ShelfKey × X)) → shown_after version (shown version xs) ys ≡ shown version (xs ++ ys)
  shown_after-shown xs ys =
      by_pushes (λ done. shown_after version (shown version xs) done ≡ shown version (xs ++ done))
      (λ done a same.
      shown_after-push (shown version xs) done a ∙ ap (λ m. with_admitted version m a) same
      ∙ sym (shown-push (xs ++ done) a) ∙ ap (shown version) (append_assoc xs done (a ∷ [])))
      [] ys
      (shown_after-none (shown version xs) ∙ ap (shown version) (sym (append_nil xs)))
