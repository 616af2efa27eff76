-- Which files items have, and which items shelves show.
use Rattle.std.proofs.Common.{◌≡◌, inl, inr, ℕ, suc, Bool, true, false, cond, List, [], ◌∷◌, map, refl, sym, ap, subst, ◌∙◌, Some, None, arith}
use Rattle.std.specs.Prelude.{Contains}
use Rattle.std.specs.declared.cmp.Ordering.{Ordering}
use Rattle.std.specs.Ordering.{eq_by_cmp}
use Rattle.std.specs.Cmp.{IsTotalOrder, eq_by_cmp_equiv}
use Rattle.std.specs.FinMap.{entries, values, get, find, get-entries, entries_sorted, IsAntisymmetric, FinMap}
use Rattle.std.proofs.lemmas.List.Elements.{All-contains, Contains-append_left, Contains-append_right, Contains-append_cases}
use Rattle.std.proofs.lemmas.Option.{same_Some}
use Rattle.sums.proofs.Members.{here, there, which, no_member, contains_map, from_map}
use Rattle.sums.specs.declared.print.Print.{Print}
use Rattle.suites.specs.Counts.{count_at}
use Rattle.suites.specs.Keys.{text_order}
use Rattle.suites.specs.KeyLemmas.{key_order_total, key_order-IsAntisymmetric, text_order_total, text_order-IsAntisymmetric}
use Rattle.suites.specs.Pool.{pair_of, files_of, AreAgreed}
use Rattle.suites.specs.Shelves.{ShelvesValue}
use Rattle.suites.specs.declared.item.Item.{Item}
use Rattle.suites.specs.declared.key.ShelfKey.{ShelfKey}
use Rattle.suites.proofs.EntryLemmas.{found_at, same_keys}
use Rattle.suites.proofs.SharedLemmas.{count_at-cons}

pub files_contain : (xs : List Item) (x : Item) (f : List ℕ × Print) → Contains xs x → Contains (map pair_of x.files) f → Contains (files_of xs) f
files_contain [] x f h i = no_member x h
files_contain (y ∷ ys) x f h i = elim (which y x ys h) [
  | inl e ↦ Contains-append_left (map pair_of y.files) (files_of ys) f (subst (λ (z : Item). Contains (map pair_of z.files) f) (sym e) i)
  | inr r ↦ Contains-append_right (map pair_of y.files) (files_of ys) f (files_contain ys x f r i)
]

pub item_of_file : (xs : List Item) (f : List ℕ × Print) → Contains (files_of xs) f → (x : Item) × Contains xs x × Contains (map pair_of x.files) f
item_of_file [] f h = no_member f h
item_of_file (y ∷ ys) f h = elim (Contains-append_cases (map pair_of y.files) (files_of ys) f h) [
  | inl i ↦ (y, here y ys, i)
  | inr r ↦ let q = item_of_file ys f r in (q.0, there y q.0 ys q.1, q.2)
]

module _ {K X : Type 0} {R : K → K → Ordering} where
  pub member_found : IsAntisymmetric R → (k : K) (v : X) (es : List (K × X)) → find R k es ≡ Some v → Contains es (k, v)
  member_found same k v [] f = cc
  member_found same k v (e ∷ es) f =
      elim (eq_by_cmp R k e.0) as (λ b. eq_by_cmp R k e.0 ≡ b → cond b (Some e.1) (find R k es) ≡ Some v → Contains (e ∷ es) (k, v)) [
        | true ↦ λ tied g. (let value : e.1 ≡ v = same_Some e.1 v g in subst (λ (z : K × X). Contains (e ∷ es) z) (λ i. (sym (same_keys same k e.0 tied) i, value i)) (here e es))
        | false ↦ λ other g. there e (k, v) es (member_found same k v es g)
      ] refl f

  pub found_member : IsTotalOrder R → (k : K) (v : X) (es : List (K × X)) → Contains es (k, v) → (w : X) × (find R k es ≡ Some w)
  found_member o k v [] h = no_member (k, v) h
  found_member o k v (e ∷ es) h =
      elim (eq_by_cmp R k e.0) as (λ b. eq_by_cmp R k e.0 ≡ b → (w : X) × (cond b (Some e.1) (find R k es) ≡ Some w)) [
        | true ↦ λ tied. (e.1, refl)
        | false ↦ λ other. elim (which e (k, v) es h) [
          | inl i ↦ (let tied : eq_by_cmp R k e.0 ≡ true = ap (λ z. eq_by_cmp R k z.0) i ∙ (eq_by_cmp_equiv o).refl k in cc)
          | inr r ↦ found_member o k v es r
        ]
      ] refl

  -- what stands at a key is one of the entries, and the other way round
  pub get_member : IsAntisymmetric R → (m : FinMap R X) (k : K) (v : X) → get m k ≡ Some v → Contains (entries m) (k, v)
  get_member same m k v e = member_found same k v (entries m) (sym (get-entries m k) ∙ e)

  pub member_get : IsTotalOrder R → (m : FinMap R X) (e : K × X) → Contains (entries m) e → get m e.0 ≡ Some e.1
  member_get o m e h = get-entries m e.0 ∙ All-contains (λ f. find R f.0 (entries m) ≡ Some f.1) (entries m) e (found_at o (entries m) (entries_sorted m)) h

-- if all agree, a member is what is found at its path
pub agreed_found : (files : List (List ℕ × Print)) (path : List ℕ) (print : Print) → AreAgreed files → Contains files (path, print) → find text_order path files ≡ Some print
agreed_found files path print agreed h =
    let w = found_member text_order_total path print files h in
    w.1 ∙ ap (λ x. Some x) (agreed path w.0 print (member_found text_order-IsAntisymmetric path w.0 files w.1) h)

-- nothing is found at a path that no file has
pub counted_none : (path : List ℕ) (files : List (List ℕ × Print)) → count_at path files ≡ 0 → find text_order path files ≡ None
counted_none path [] none = refl
counted_none path (f ∷ files) none = by_kind (eq_by_cmp text_order path f.0) (sym (count_at-cons path f files) ∙ none) (counted_none path files)
  where
    by_kind : (b : Bool) → cond b (suc (count_at path files)) (count_at path files) ≡ 0 → (count_at path files ≡ 0 → find text_order path files ≡ None) → cond b (Some f.1) (find text_order path files) ≡ None
    by_kind true e again = absurd (omega (arith, e))
    by_kind false e again = again e

-- what a shelf shows is one of the entries, and the other way round
pub entry_shown : (m : ShelvesValue) (k : ShelfKey) (x : Item) → get m k ≡ Some x → Contains (entries m) (k, x)
entry_shown m k x e = get_member key_order-IsAntisymmetric m k x e

pub shown_entry : (m : ShelvesValue) (e : ShelfKey × Item) → Contains (entries m) e → get m e.0 ≡ Some e.1
shown_entry m e h = member_get key_order_total m e h

pub value_shown : (m : ShelvesValue) (k : ShelfKey) (x : Item) → get m k ≡ Some x → Contains (values m) x
value_shown m k x e = contains_map (λ (f : ShelfKey × Item). f.1) (k, x) (entries m) (entry_shown m k x e)

pub shown_value : (m : ShelvesValue) (x : Item) → Contains (values m) x → (k : ShelfKey) × (get m k ≡ Some x)
shown_value m x h =
    let e = from_map (λ (f : ShelfKey × Item). f.1) x (entries m) h in
    (e.0.0, shown_entry m e.0 e.1 ∙ ap (λ y. Some y) e.2)
