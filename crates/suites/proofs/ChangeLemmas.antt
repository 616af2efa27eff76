-- Small changes: nothing, a new item, an item in the place of another.
use Rattle.std.proofs.Common.{◌≡◌, ◌≢◌, Bool, true, false, cond, [], ◌∷◌, refl, sym, ap, ◌∙◌, Option, Some, None}
use Rattle.std.specs.Prelude.{All}
use Rattle.std.specs.declared.cmp.Ordering.{Ordering}
use Rattle.std.specs.Ordering.{eq_by_cmp}
use Rattle.std.specs.Cmp.{IsTotalOrder, eq_by_cmp_equiv}
use Rattle.std.specs.FinMap.{FinMap, get, insert, remove, get-insert, get-remove, same_map, IsAntisymmetric}
use Rattle.std.proofs.lemmas.List.Elements.{All-cons, All-nil}
use Rattle.std.proofs.lemmas.Option.{same_Some}
use Rattle.suites.specs.Change.{IsChange, without, with_all}

one : {E : Type 0} (P : E → Type 0) (x : E) → P x → All P (x ∷ [])
one P x h = All-cons P x [] h (All-nil P)

itself : {K : Type 0} {R : K → K → Ordering} → IsTotalOrder R → (k : K) → eq_by_cmp R k k ≡ true
itself o k = (eq_by_cmp_equiv o).refl k

module _ {K X : Type 0} {R : K → K → Ordering} (o : IsTotalOrder R) (same : IsAntisymmetric R) where
  pub IsChange-none : (m : FinMap R X) → IsChange m m [] []
  unfolding without with_all
  IsChange-none m = record { made = refl; absent = All-nil _; gone = All-nil _; put_in_order = tt; dropped_in_order = tt }

  pub IsChange-new : (m : FinMap R X) (k : K) (x : X) → get m k ≡ None → IsChange m (insert m k x) ((k, x) ∷ []) []
  unfolding without with_all
  IsChange-new m k x none = record {
    made = refl;
    absent = one (λ e. get (without {R = R} m []) e.0 ≡ None) (k, x) none;
    gone = All-nil _;
    put_in_order = tt;
    dropped_in_order = tt;
  }

  again : (b : Bool) (x : Option X) (y : Option X) → cond b x y ≡ cond b x (cond b None y)
  again true x y = refl
  again false x y = refl

  pub IsChange-replaced : (m : FinMap R X) (k : K) (x y : X) → get m k ≡ Some y → x ≢ y → IsChange m (insert m k x) ((k, x) ∷ []) ((k, y) ∷ [])
  unfolding without with_all
  IsChange-replaced m k x y there other = record {
    made = same_map o same _ _ (λ q.
        get-insert o m k x q ∙ again (eq_by_cmp R q k) (Some x) (get m q)
        ∙ ap (cond (eq_by_cmp R q k) (Some x)) (sym (get-remove o m k q))
        ∙ sym (get-insert o (remove m k) k x q));
    absent = one (λ e. get (without m ((k, y) ∷ [])) e.0 ≡ None) (k, x) (get-remove o m k k ∙ ap (λ b. cond b None (get m k)) (itself o k));
    gone = one (λ e. (get m e.0 ≡ Some e.1) × (get (insert m k x) e.0 ≢ Some e.1)) (k, y) (there, λ e. other (same_Some x y (sym (get-insert o m k x k ∙ ap (λ b. cond b (Some x) (get m k)) (itself o k)) ∙ e)));
    put_in_order = tt;
    dropped_in_order = tt;
  }
