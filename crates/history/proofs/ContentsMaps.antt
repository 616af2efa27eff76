-- Finite maps with a function on their values.
use Rattle.std.proofs.Common.{◌≡◌, true, false, cond, List, [], ◌∷◌, map, Some, option_map, refl, sym, ap, ◌∙◌}
use Rattle.std.specs.Cmp.{IsTotalOrder}
use Rattle.std.specs.FinMap.{entries, get, find, put, from_entries, entries-insert, get-from_entries}
use Rattle.std.specs.FinMap.Entries.{by_order}
use Rattle.std.specs.Ordering.{eq_by_cmp}
use Rattle.std.specs.declared.cmp.Ordering.{Ordering}
use Rattle.std.specs.declared.cmp.Ordering.TheVariants.{Less, Equal, Greater}
use Rattle.suites.proofs.SharedLemmas.{entries-empty}

module _ {K X Y : Type 0} (R : K → K → Ordering) (f : X → Y) where
  -- an entry with the function on its value
  abbrev pub on_value : K × X → K × Y
  on_value e = (e.0, f e.1)

  pub find-map : (q : K) (es : List (K × X)) → find R q (map on_value es) ≡ option_map f (find R q es)
  find-map q [] = refl
  find-map q (e ∷ es) =
      elim (eq_by_cmp R q e.0) as (λ b. cond b (Some (f e.1)) (find R q (map on_value es)) ≡ option_map f (cond b (Some e.1) (find R q es))) [
        | true ↦ refl
        | false ↦ find-map q es
      ]

  put-map : (k : K) (v : X) (es : List (K × X)) → put R k (f v) (map on_value es) ≡ map on_value (put R k v es)
  put-map k v [] = refl
  put-map k v (e ∷ es) =
      elim (R k e.0) as (λ o. by_order o ((k, f v) ∷ on_value e ∷ map on_value es) ((e.0, f v) ∷ map on_value es) (on_value e ∷ put R k (f v) (map on_value es)) ≡ map on_value (by_order o ((k, v) ∷ e ∷ es) ((e.0, v) ∷ es) (e ∷ put R k v es))) [
        | Less ↦ refl
        | Equal ↦ refl
        | Greater ↦ ap (λ rest. on_value e ∷ rest) (put-map k v es)
      ]

  pub entries-map : IsTotalOrder R → (es : List (K × X)) → entries (from_entries {R = R} (map on_value es)) ≡ map on_value (entries (from_entries {R = R} es))
  entries-map total [] = entries-empty R Y ∙ ap (map on_value) (sym (entries-empty R X))
  entries-map total (e ∷ es) =
      entries-insert total (from_entries (map on_value es)) e.0 (f e.1)
      ∙ ap (put R e.0 (f e.1)) (entries-map total es)
      ∙ put-map e.0 e.1 (entries (from_entries {R = R} es))
      ∙ ap (map on_value) (sym (entries-insert total (from_entries es) e.0 e.1))

  pub get-map : IsTotalOrder R → (es : List (K × X)) (q : K) → get (from_entries {R = R} (map on_value es)) q ≡ option_map f (get (from_entries {R = R} es) q)
  get-map total es q = get-from_entries total (map on_value es) q ∙ find-map q es ∙ ap (option_map f) (sym (get-from_entries total es q))
