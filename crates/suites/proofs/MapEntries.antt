-- The entries of a `BTreeMap` as those of its finite map, and its copy entry by entry.
use Rattle.std.proofs.Common.{◌≡◌, Bool, true, false, cond, ◌&&◌, Some, List, [], ◌∷◌, ◌++◌, map, refl, sym, ap, subst, ◌∙◌, append_assoc}
use Rattle.std.specs.declared.cmp.Ordering.{Ordering}
use Rattle.std.specs.declared.cmp.Ordering.TheVariants.{Less, Greater}
use Rattle.std.specs.Ordering.{is_lt, eq_by_cmp, match_ordering, ordering_reverse}
use Rattle.std.specs.Cmp.{IsTotalOrder}
use Rattle.std.specs.Prelude.{T}
use Rattle.std.specs.List.{AllByRecursion}
use Rattle.std.specs.List.Sorted.{IsStrictlySortedBy}
use Rattle.std.specs.Map.{keys_of, lookup}
use Rattle.std.specs.BTreeMap.{BTreeMap, IsOrdered, insert_entry, is_at}
use Rattle.std.specs.FinMap.{entries, find, is_sorted, from_entries, IsAntisymmetric}
use Rattle.std.specs.FinMap.Entries.{below_all}
use Rattle.std.proofs.lemmas.Map.Keys.{sorted_head, sorted_tail}
use Rattle.suites.proofs.MapLemmas.{entries-view}

both : (a b : Bool) → T a → T b → T (a && b)
both true b p q = q
both false b p q = p

-- the entries of a `BTreeMap` are those of its finite map
module _ {K X : Type 0} (R : K → K → Ordering) where
  below_each : (k : K) (es : List (K × X)) → AllByRecursion (λ y. R k y ≡ Less) (keys_of es) → T (below_all R k es)
  below_each k [] h = tt
  below_each k (e ∷ es) h = subst (λ (o : Ordering). T (is_lt o && below_all R k es)) (sym h.0) (below_each k es h.1)

  pub is_sorted-from_ordered : (es : List (K × X)) → IsStrictlySortedBy R (keys_of es) → T (is_sorted R es)
  is_sorted-from_ordered [] h = tt
  is_sorted-from_ordered (e ∷ es) h = both _ _ (below_each e.0 es (sorted_head R e.0 (keys_of es) h)) (is_sorted-from_ordered es (sorted_tail R e.0 (keys_of es) h))

pub entries-ordered : {K X : Type 0} {R : K → K → Ordering} → IsTotalOrder R → IsAntisymmetric R → (m : BTreeMap K X) → IsOrdered R m → entries (from_entries {R = R} m.entries) ≡ m.entries
entries-ordered {R = R} o same m h = entries-view o same m.entries (is_sorted-from_ordered R m.entries h)

-- a map's entries, with f read of each key
abbrev pub read : {K B X : Type 0} → (K → B) → List (K × X) → List (B × X)
read {K} {B} {X} f es = map {B = B × X} (λ (e : K × X). (f e.0, e.1)) es

module _ {K B X : Type 0} (f : K → B) {Q : B → B → Ordering} (o : IsTotalOrder Q) where
  below_later : (a : B) (es : List (B × X)) (e : B × X) (rest : List (B × X)) → AllByRecursion (λ y. Q a y ≡ Less) (keys_of (es ++ e ∷ rest)) → Q a e.0 ≡ Less
  below_later a [] e rest h = h.0
  below_later a (x ∷ es) e rest h = below_later a es e rest h.1

  -- an entry whose key is above all comes last
  pub insert-last : (es : List (K × X)) (k : K) (v : X) (rest : List (B × X)) → IsStrictlySortedBy Q (keys_of (read f es ++ (f k, v) ∷ rest))
      → read f (insert_entry (λ x y. Q (f x) (f y)) es k v) ≡ read f es ++ (f k, v) ∷ []
  insert-last [] k v rest h = refl
  insert-last (e ∷ es) k v rest h =
      let above : Q (f k) (f e.0) ≡ Greater =
      o.antisymm (f k) (f e.0) ∙ ap ordering_reverse (below_later (f e.0) (read f es) (f k, v) rest (sorted_head Q (f e.0) (keys_of (read f es ++ (f k, v) ∷ rest)) h)) in
      ap (λ r. read f (match_ordering r ((k, v) ∷ e ∷ es) ((e.0, v) ∷ es) (e ∷ insert_entry (λ x y. Q (f x) (f y)) es k v))) above
      ∙ ap (λ fs. (f e.0, e.1) ∷ fs) (insert-last es k v rest (sorted_tail Q (f e.0) (keys_of (read f es ++ (f k, v) ∷ rest)) h))

  -- a copy that has the first entries, after one more
  pub copied_more : (all : List (B × X)) (es : List (K × X)) (k : K) (v : X) (rest : List (B × X)) → IsStrictlySortedBy Q (keys_of all) → read f es ++ (f k, v) ∷ rest ≡ all
      → read f (insert_entry (λ x y. Q (f x) (f y)) es k v) ++ rest ≡ all
  copied_more all es k v rest sorted so_far =
      ap (λ fs. fs ++ rest) (insert-last es k v rest (subst (λ fs. IsStrictlySortedBy Q (keys_of fs)) (sym so_far) sorted))
      ∙ append_assoc (read f es) ((f k, v) ∷ []) rest
      ∙ so_far

module _ {K B X : Type 0} (f : K → B) (R : B → B → Ordering) where
  -- a look-up by what f reads
  pub read_alike : (q : B) (es : List (K × X)) → lookup (is_at (λ k. R q (f k))) es ≡ find R q (read f es)
  read_alike q [] = refl
  read_alike q (e ∷ es) = ap (cond (eq_by_cmp R q (f e.0)) (Some e.1)) (read_alike q es)

  each_read : (k : K) (es : List (K × X)) → AllByRecursion (λ y. R (f k) (f y) ≡ Less) (keys_of es) → AllByRecursion (λ y. R (f k) y ≡ Less) (keys_of (read f es))
  each_read k [] h = tt
  each_read k (e ∷ es) h = (h.0, each_read k es h.1)

  -- keys in order are so by what f reads
  pub sorted_read : (es : List (K × X)) → IsStrictlySortedBy (λ x y. R (f x) (f y)) (keys_of es) → IsStrictlySortedBy R (keys_of (read f es))
  unfolding IsStrictlySortedBy
  sorted_read [] h = tt
  sorted_read (e ∷ es) h = (each_read e.0 es h.0, sorted_read es h.1)
