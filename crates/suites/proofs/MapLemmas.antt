-- A `BTreeMap` seen as a finite map.
use Rattle.std.proofs.Common.{◌≡◌, cond, List, [], ◌∷◌, refl, sym, ap, ◌∙◌, Some, None}
use Rattle.std.specs.declared.cmp.Ordering.{Ordering}
use Rattle.std.specs.Ordering.{eq_by_cmp}
use Rattle.std.specs.Cmp.{IsTotalOrder, eq_by_cmp_equiv}
use Rattle.std.specs.Prelude.{T}
use Rattle.std.specs.Map.{lookup}
use Rattle.std.specs.BTreeMap.{BTreeMap, is_at, get_by, Updates, UpdatesBy}
use Rattle.std.specs.FinMap.{entries, is_sorted, from_sorted, get-from_sorted, entries-from_sorted, from_entries, get, insert, remove, find, get-from_entries, get-insert, get-remove, same_map, IsAntisymmetric}

module _ {K X : Type 0} {R : K → K → Ordering} (o : IsTotalOrder R) where
  find-lookup : (q : K) (es : List (K × X)) → find R q es ≡ lookup (is_at (R q)) es
  find-lookup q [] = refl
  find-lookup q (e ∷ es) = ap (cond (eq_by_cmp R q e.0) (Some e.1)) (find-lookup q es)

  pub get-view : (m : BTreeMap K X) (q : K) → get (from_entries {R = R} m.entries) q ≡ get_by (R q) m
  get-view m q = get-from_entries o m.entries q ∙ find-lookup q m.entries

  pub insert-view : IsAntisymmetric R → (m n : BTreeMap K X) (k : K) (v : X) → Updates R m n k (Some v) → from_entries {R = R} n.entries ≡ insert (from_entries m.entries) k v
  insert-view same m n k v updates = same_map o same _ _ (λ q.
      get-view n q ∙ updates.0 q
      ∙ ap (λ b. cond b (Some v) (get_by (R q) m)) ((eq_by_cmp_equiv o).symm k q)
      ∙ ap (cond (eq_by_cmp R q k) (Some v)) (sym (get-view m q))
      ∙ sym (get-insert o (from_entries m.entries) k v q))

  pub remove-view : IsAntisymmetric R → (m n : BTreeMap K X) (k : K) → UpdatesBy R (R k) m n None → from_entries {R = R} n.entries ≡ remove (from_entries m.entries) k
  remove-view same m n k updates = same_map o same _ _ (λ q.
      get-view n q ∙ updates.0 q
      ∙ ap (λ b. cond b None (get_by (R q) m)) ((eq_by_cmp_equiv o).symm k q)
      ∙ ap (cond (eq_by_cmp R q k) None) (sym (get-view m q))
      ∙ sym (get-remove o (from_entries m.entries) k q))

  -- a list in the order of its keys is the entries of its map
  pub entries-view : IsAntisymmetric R → (es : List (K × X)) → T (is_sorted R es) → entries (from_entries {R = R} es) ≡ es
  entries-view same es h =
      ap entries (same_map o same (from_entries es) (from_sorted es) (λ q. get-from_entries o es q ∙ sym (get-from_sorted R es q h)))
      ∙ entries-from_sorted R es h
