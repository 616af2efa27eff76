-- The entries of a map that pass a test, and what is found among them.
use Rattle.std.proofs.Common.{◌≡◌, Bool, true, false, cond, List, [], ◌∷◌, Option, Some, None, option_and_then, refl, sym, ap, ◌∙◌}
use Rattle.std.specs.Prelude.{T, filter}
use Rattle.std.specs.Cmp.{IsTotalOrder}
use Rattle.std.specs.FinMap.{FinMap, IsAntisymmetric, entries, entries_sorted, find, from_entries, get, get-entries, get-from_entries, is_sorted, same_map}
use Rattle.std.specs.FinMap.Entries.{below_all}
use Rattle.std.specs.Ordering.{eq_by_cmp}
use Rattle.std.specs.declared.cmp.Ordering.{Ordering}
use Rattle.suites.proofs.EntryLemmas.{and_left, and_right, same_keys, sorted-filter, tied_behind}
use Rattle.suites.proofs.MapLemmas.{entries-view}

module _ {K X : Type 0} {R : K → K → Ordering} (total : IsTotalOrder R) (same : IsAntisymmetric R) (p : K × X → Bool) where
  -- what is found at a key, if it passes
  abbrev pub passing : K → Option X → Option X
  passing q o = option_and_then (λ x. cond (p (q, x)) (Some x) None) o

  pub passing_not : (q : K) (x : X) → p (q, x) ≡ false → passing q (Some x) ≡ None
  passing_not q x h = ap (λ b. cond b (Some x) None) h

  first_passes : (q : K) (e : K × X) (es : List (K × X)) (b : Bool) → eq_by_cmp R q e.0 ≡ b → T (below_all R e.0 es)
      → find R q (filter p es) ≡ passing q (find R q es)
      → (c : Bool) → p e ≡ c → find R q (cond c (e ∷ filter p es) (filter p es)) ≡ passing q (cond b (Some e.1) (find R q es))
  first_passes q e es true tied below more true t =
      let is : (q, e.1) ≡ e = λ i. (same_keys same q e.0 tied i, e.1) in
      ap (λ b. cond b (Some e.1) (find R q (filter p es))) tied ∙ sym (ap (λ b. cond b (Some e.1) None) (ap p is ∙ t))
  first_passes q e es true tied below more false t =
      let is : (q, e.1) ≡ e = λ i. (same_keys same q e.0 tied i, e.1) in
      more ∙ ap (passing q) (tied_behind total e.0 q es below tied) ∙ sym (passing_not q e.1 (ap p is ∙ t))
  first_passes q e es false apart below more true t = ap (λ b. cond b (Some e.1) (find R q (filter p es))) apart ∙ more
  first_passes q e es false apart below more false t = more

  pub find-filter : (q : K) (es : List (K × X)) → T (is_sorted R es) → find R q (filter p es) ≡ passing q (find R q es)
  find-filter q [] sorted = refl
  find-filter q (e ∷ es) sorted =
      first_passes q e es (eq_by_cmp R q e.0) refl (and_left (below_all R e.0 es) (is_sorted R es) sorted) (find-filter q es (and_right (below_all R e.0 es) (is_sorted R es) sorted)) (p e) refl

  -- maps that have the same passing entries
  pub same_passing : (m n : FinMap R X) → ((q : K) → passing q (get m q) ≡ passing q (get n q)) → filter p (entries m) ≡ filter p (entries n)
  same_passing m n h =
      let left = sorted-filter R p (entries m) (entries_sorted m) in
      let right = sorted-filter R p (entries n) (entries_sorted n) in
      sym (entries-view total same (filter p (entries m)) left)
      ∙ ap entries (same_map total same (from_entries {R = R} (filter p (entries m))) (from_entries {R = R} (filter p (entries n))) (λ q.
      get-from_entries total (filter p (entries m)) q ∙ find-filter q (entries m) (entries_sorted m) ∙ ap (passing q) (sym (get-entries m q))
      ∙ h q
      ∙ ap (passing q) (get-entries n q) ∙ sym (find-filter q (entries n) (entries_sorted n)) ∙ sym (get-from_entries total (filter p (entries n)) q)))
      ∙ entries-view total same (filter p (entries n)) right
