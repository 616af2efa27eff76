-- The loops that move what is shown.
use Rattle.std.proofs.Common.{◌≡◌, ◌≢◌, inl, inr, ℕ, Bool, true, false, cond, List, [], ◌∷◌, ◌++◌, map, Option, Some, None, option_map, if◌then◌else◌, refl, sym, ap, subst, ◌∙◌, arith}
use Rattle.std.specs.Prelude.{All, AllPairs, Contains}
use Rattle.std.specs.List.{list_all}
use Rattle.std.specs.Option.{option_map_or, option_or}
use Rattle.std.specs.Ordering.{eq_by_cmp}
use Rattle.std.specs.FinMap.{find, from_entries, get, get-empty, get-from_entries, get-insert, insert, same_map, values, empty}
use Rattle.std.proofs.lemmas.List.Elements.{All-contains, Contains-append_cases, Contains-append_left, Contains-append_right}
use Rattle.std.proofs.lemmas.Option.{same_Some}
use Rattle.sums.proofs.Members.{all_from, no_member}
use Rattle.rules.specs.declared.suite.Suite.{Suite}
use Rattle.sums.specs.declared.print.Print.{Print}
use Rattle.suites.specs.Admission.{MayJoin}
use Rattle.suites.specs.Items.{IsAtHome}
use Rattle.suites.specs.Keys.{key_order}
use Rattle.suites.specs.KeyLemmas.{key_order_total, key_order-IsAntisymmetric}
use Rattle.suites.specs.Moved.{place_in, stays_kept}
use Rattle.suites.specs.Pool.{AreAgreed, files_of, pair_of}
use Rattle.suites.specs.Shelves.{ShelvesValue}
use Rattle.suites.specs.Told.{is_kept_by}
use Rattle.suites.specs.declared.item.Item.{Item}
use Rattle.suites.specs.declared.key.ShelfKey.{ShelfKey}
use Rattle.suites.proofs.EntryLemmas.{same_keys}
use Rattle.suites.proofs.FileMembers.{files_contain, item_of_file, shown_value, value_shown}
use Rattle.suites.proofs.ListTests.{option_or_none}

-- ---- entries, one after another

-- if the entry has no shelf there, it is not kept
pub stays_not : (old new : List Suite) (e : ShelfKey × Item) → None ≡ (if stays_kept old new e then option_map (λ n. record e.0 { suite = n }) (place_in old new e.0.suite) else None) → stays_kept old new e ≡ false
unfolding stays_kept
stays_not old new e h = by_case (place_in old new e.0.suite) refl h
  where
    -- the test, by the place
    test : Option ℕ → Bool
    test o = option_map_or (is_kept_by new) (option_map (λ n. (record e.0 { suite = n }, e.1)) o) false

    decided : (b : Bool) (n : ℕ) → None ≡ (if b then option_map (λ k. record e.0 { suite = k }) (Some n) else None) → b ≡ false
    decided true n f = cc
    decided false n f = refl

    by_case : (o : Option ℕ) → place_in old new e.0.suite ≡ o → None ≡ (if test o then option_map (λ n. record e.0 { suite = n }) o else None) → test o ≡ false
    by_case None is f = refl
    by_case (Some n) is f = decided (test (Some n)) n f

pub not_all : {X : Type 0} (p : X → Bool) (x : X) (xs : List X) → p x ≡ false → list_all p (x ∷ xs) ≡ false
not_all p x xs e = rw e refl

-- ---- shelves, one item after another

module _ (m : ShelvesValue) (key : ShelfKey) (item : Item) (rest : List (ShelfKey × Item)) where
  abbrev items : List Item
  items = map (λ (e : ShelfKey × Item). e.1) rest

  -- what is on a shelf once the item is on its own
  shelf_then : (k : ShelfKey) → get (insert m key item) k ≡ cond (eq_by_cmp key_order k key) (Some item) (get m k)
  shelf_then k = get-insert key_order_total m key item k

  pub joins : AreAgreed (files_of (values m) ++ files_of (item ∷ items)) → MayJoin m ((key, item) ∷ [])
  joins agreed = record {
    apart = λ i j d below within. absurd (omega arith);
    agreed = λ path a b p q. agreed path a b (into (path, a) p) (into (path, b) q);
  }
    where
      into : (f : List ℕ × Print) → Contains (files_of (values m) ++ files_of (item ∷ [])) f → Contains (files_of (values m) ++ files_of (item ∷ items)) f
      into f h = elim (Contains-append_cases (files_of (values m)) (files_of (item ∷ [])) f h) [
        | inl there_is ↦ Contains-append_left (files_of (values m)) (files_of (item ∷ items)) f there_is
        | inr own ↦ Contains-append_right (files_of (values m)) (files_of (item ∷ items)) f (elim (Contains-append_cases (map pair_of item.files) [] f own) [
          | inl of_it ↦ Contains-append_left (map pair_of item.files) (files_of items) f of_it
          | inr none ↦ no_member f none
        ])
      ]

  pub left_then : (get m key ≡ None) → (k : ShelfKey) → option_or (get (insert m key item) k) (find key_order k rest) ≡ option_or (get m k) (find key_order k ((key, item) ∷ rest))
  left_then free k = ap (λ o. option_or o (find key_order k rest)) (shelf_then k) ∙ by_case (eq_by_cmp key_order k key) refl
    where
      none_then : (o : Option Item) → o ≡ None → Some item ≡ option_or o (Some item)
      none_then None e = refl
      none_then (Some x) e = cc

      by_case : (b : Bool) → eq_by_cmp key_order k key ≡ b → option_or (cond b (Some item) (get m k)) (find key_order k rest) ≡ option_or (get m k) (cond b (Some item) (find key_order k rest))
      by_case true tied = none_then (get m k) (ap (get m) (same_keys key_order-IsAntisymmetric k key tied) ∙ free)
      by_case false other = refl

  pub free_then : All (λ (e : ShelfKey × Item). get m e.0 ≡ None) rest → All (λ (e : ShelfKey × Item). key ≢ e.0) rest → All (λ (e : ShelfKey × Item). get (insert m key item) e.0 ≡ None) rest
  free_then free apart = all_from (λ (e : ShelfKey × Item). get (insert m key item) e.0 ≡ None) rest (λ e at.
      shelf_then e.0 ∙ by_case e (All-contains (λ (f : ShelfKey × Item). get m f.0 ≡ None) rest e free at) (All-contains (λ (f : ShelfKey × Item). key ≢ f.0) rest e apart at) (eq_by_cmp key_order e.0 key) refl)
    where
      by_case : (e : ShelfKey × Item) → get m e.0 ≡ None → key ≢ e.0 → (b : Bool) → eq_by_cmp key_order e.0 key ≡ b → cond b (Some item) (get m e.0) ≡ None
      by_case e none differs true tied = absurd (differs (sym (same_keys key_order-IsAntisymmetric e.0 key tied)))
      by_case e none differs false other = none

  pub agreed_then : AreAgreed (files_of (values m) ++ files_of (item ∷ items)) → AreAgreed (files_of (values (insert m key item)) ++ files_of items)
  agreed_then agreed = λ path a b p q. agreed path a b (back (path, a) p) (back (path, b) q)
    where
      shown_or_it : (k : ShelfKey) (x : Item) → get (insert m key item) k ≡ Some x → (f : List ℕ × Print) → Contains (map pair_of x.files) f → Contains (files_of (values m) ++ files_of (item ∷ items)) f
      shown_or_it k x is f own = by_case (eq_by_cmp key_order k key) (sym (shelf_then k) ∙ is)
        where
          by_case : (b : Bool) → cond b (Some item) (get m k) ≡ Some x → Contains (files_of (values m) ++ files_of (item ∷ items)) f
          by_case true e =
              let same : item ≡ x = same_Some item x e in
              Contains-append_right (files_of (values m)) (files_of (item ∷ items)) f
              (Contains-append_left (map pair_of item.files) (files_of items) f (subst (λ (y : Item). Contains (map pair_of y.files) f) (sym same) own))
          by_case false e = Contains-append_left (files_of (values m)) (files_of (item ∷ items)) f (files_contain (values m) x f (value_shown m k x e) own)

      back : (f : List ℕ × Print) → Contains (files_of (values (insert m key item)) ++ files_of items) f → Contains (files_of (values m) ++ files_of (item ∷ items)) f
      back f h = elim (Contains-append_cases (files_of (values (insert m key item))) (files_of items) f h) [
        | inl now ↦
            let x = item_of_file (values (insert m key item)) f now in
            let k = shown_value (insert m key item) x.0 x.1 in
            shown_or_it k.0 x.0 k.1 f x.2
        | inr later ↦ Contains-append_right (files_of (values m)) (files_of (item ∷ items)) f (Contains-append_right (map pair_of item.files) (files_of items) f later)
      ]

-- at the end all are there
pub all_there : (m : ShelvesValue) (es : List (ShelfKey × Item)) → ((k : ShelfKey) → option_or (get m k) None ≡ get (from_entries {R = key_order} es) k) → m ≡ from_entries es
all_there m es h = same_map key_order_total key_order-IsAntisymmetric m (from_entries es) (λ k. sym (option_or_none (get m k)) ∙ h k)

-- what holds before the first item
pub record Starts (all : List (ShelfKey × Item)) (m : ShelvesValue) (rest : List (ShelfKey × Item)) : Type 0 where
  pub left : (key : ShelfKey) → option_or (get m key) (find key_order key rest) ≡ get (from_entries {R = key_order} all) key
  pub free : All (λ (e : ShelfKey × Item). get m e.0 ≡ None) rest
  pub apart : AllPairs (λ (a b : ShelfKey × Item). a.0 ≢ b.0) rest
  pub home : All IsAtHome rest
  pub agreed : AreAgreed (files_of (values m) ++ files_of (map (λ (e : ShelfKey × Item). e.1) rest))

pub start : (all : List (ShelfKey × Item)) (m : ShelvesValue) (rest : List (ShelfKey × Item)) → m ≡ empty → rest ≡ all → All IsAtHome all → AllPairs (λ (a b : ShelfKey × Item). a.0 ≢ b.0) all
    → AreAgreed (files_of (map (λ (e : ShelfKey × Item). e.1) all)) → Starts all m rest
start all m rest none same home apart agreed = record {
  left = λ key. ap (λ o. option_or o (find key_order key rest)) (nowhere key) ∙ ap (find key_order key) same ∙ sym (get-from_entries key_order_total all key);
  free = all_from (λ (e : ShelfKey × Item). get m e.0 ≡ None) rest (λ e at. nowhere e.0);
  apart = subst (AllPairs (λ (a b : ShelfKey × Item). a.0 ≢ b.0)) (sym same) apart;
  home = subst (All IsAtHome) (sym same) home;
  agreed = λ path a b p q. agreed path a b (of_rest (path, a) p) (of_rest (path, b) q);
}
  where
    nowhere : (key : ShelfKey) → get m key ≡ None
    nowhere key = ap (λ (s : ShelvesValue). get s key) none ∙ get-empty key_order key

    of_none : (f : List ℕ × Print) → Contains (files_of (values m)) f → ⊥
    of_none f h =
        let x = item_of_file (values m) f h in
        let k = shown_value m x.0 x.1 in
        let both : None ≡ Some x.0 = sym (nowhere k.0) ∙ k.1 in
        absurd cc

    of_rest : (f : List ℕ × Print) → Contains (files_of (values m) ++ files_of (map (λ (e : ShelfKey × Item). e.1) rest)) f → Contains (files_of (map (λ (e : ShelfKey × Item). e.1) all)) f
    of_rest f h = elim (Contains-append_cases (files_of (values m)) (files_of (map (λ (e : ShelfKey × Item). e.1) rest)) f h) [
      | inl shown ↦ absurd (of_none f shown)
      | inr own ↦ subst (λ (es : List (ShelfKey × Item)). Contains (files_of (map (λ (e : ShelfKey × Item). e.1) es)) f) same own
    ]
