-- Lists of rows: what a search finds once rows go or come.
use Rattle.std.proofs.Common.{◌≡◌, ℕ, ◌<◌, Bool, true, false, not, ◌||◌, cond, List, [], ◌∷◌, ◌++◌, filter, find, fold, refl, sym, ap, subst, ◌∙◌, arith, Some, None, nat_eq, T}
use Rattle.std.specs.List.{AllByRecursion, list_any}
use Rattle.std.specs.declared.cmp.Ordering.{Ordering}
use Rattle.std.specs.Ordering.{is_lt}
use Rattle.std.specs.Cmp.{IsTotalOrder, eq_by_cmp_equiv}
use Rattle.std.specs.FinMap.{FinMap, get, insert, remove, is_sorted, get-insert}
use Rattle.std.specs.FinMap.Entries.{below_all}
use Rattle.std.proofs.lemmas.Bool.{both_ways, eq-eqb, ne_eqb, eqb-true}
use Rattle.std.proofs.lemmas.Option.{same_Some}
use Rattle.sqlite_trees.specs.Tree.{IsAscending}
use Rattle.sqlite_keyed.specs.Lists.{delete_where}
use Rattle.sqlite_keyed.proofs.ListLemmas.{all_weaker}
use Rattle.suites.proofs.EntryLemmas.{and_left, and_right, less_apart}

-- ---- what a search finds

module _ {X : Type 0} (p : X → Bool) where
  pub found_holds : (P : X → Type 0) (xs : List X) (x : X) → AllByRecursion P xs → find p xs ≡ Some x → P x
  found_holds P [] x all e = cc
  found_holds P (y ∷ ys) x all e = go (p y) e (found_holds P ys x all.1)
    where
      go : (b : Bool) → cond b (Some y) (find p ys) ≡ Some x → (find p ys ≡ Some x → P x) → P x
      go true f more = subst P (same_Some y x f) all.0
      go false f more = more f

  pub none_passes : (xs : List X) → find p xs ≡ None → AllByRecursion (λ x. p x ≡ false) xs
  none_passes [] e = tt
  none_passes (y ∷ ys) e = go (p y) refl e (none_passes ys)
    where
      go : (b : Bool) → p y ≡ b → cond b (Some y) (find p ys) ≡ None → (find p ys ≡ None → AllByRecursion (λ x. p x ≡ false) ys) → AllByRecursion (λ x. p x ≡ false) (y ∷ ys)
      go true t f more = cc
      go false t f more = (t, more f)

  -- a search of which at most one row passes
  pub only_one : (xs : List X) (x : X) → IsAscending (λ a b. p a ≡ true → p b ≡ false) xs → find p xs ≡ Some x → AllByRecursion (λ y. p y ≡ true → y ≡ x) xs
  only_one [] x up e = tt
  only_one (y ∷ ys) x up e = go (p y) refl e (only_one ys x up.1)
    where
      go : (b : Bool) → p y ≡ b → cond b (Some y) (find p ys) ≡ Some x → (find p ys ≡ Some x → AllByRecursion (λ z. p z ≡ true → z ≡ x) ys) → AllByRecursion (λ z. p z ≡ true → z ≡ x) (y ∷ ys)
      go true t f more = (
        λ _. same_Some y x f,
        all_weaker (λ z. p y ≡ true → p z ≡ false) (λ z. p z ≡ true → z ≡ x) (λ z no yes. absurd (both_ways (p z) (no t) yes)) ys up.0,
      )
      go false t f more = (λ yes. absurd (both_ways (p y) t yes), more f)

  -- some row passes if one is found
  pub any_found : (xs : List X) (x : X) → find p xs ≡ Some x → list_any p xs ≡ true
  any_found [] x e = cc
  any_found (y ∷ ys) x e = go (p y) e (any_found ys x)
    where
      go : (b : Bool) → cond b (Some y) (find p ys) ≡ Some x → (find p ys ≡ Some x → list_any p ys ≡ true) → (b || list_any p ys) ≡ true
      go true f more = refl
      go false f more = more f

  module _ (gone : X → Bool) where
    -- no row that passes goes: the search finds the same
    pub find_kept : (xs : List X) → AllByRecursion (λ x. gone x ≡ true → p x ≡ false) xs → find p (delete_where gone xs) ≡ find p xs
    find_kept [] h = refl
    find_kept (x ∷ xs) h = go (gone x) refl (find_kept xs h.1)
      where
        go : (b : Bool) → gone x ≡ b → find p (delete_where gone xs) ≡ find p xs → find p (cond (not b) (x ∷ delete_where gone xs) (delete_where gone xs)) ≡ cond (p x) (Some x) (find p xs)
        go true t more = more ∙ ap (λ c. cond c (Some x) (find p xs)) (sym (h.0 t))
        go false t more = ap (cond (p x) (Some x)) more

    -- each row that passes goes: the search finds none
    pub find_gone : (xs : List X) → AllByRecursion (λ x. p x ≡ true → gone x ≡ true) xs → find p (delete_where gone xs) ≡ None
    find_gone [] h = refl
    find_gone (x ∷ xs) h = go (gone x) (p x) refl refl (find_gone xs h.1)
      where
        go : (b c : Bool) → gone x ≡ b → p x ≡ c → find p (delete_where gone xs) ≡ None → find p (cond (not b) (x ∷ delete_where gone xs) (delete_where gone xs)) ≡ None
        go true c t u more = more
        go false true t u more = absurd (both_ways (gone x) t (h.0 u))
        go false false t u more = ap (λ d. cond d (Some x) (find p (delete_where gone xs))) u ∙ more

    -- no row that passes goes: some row still passes
    pub any_kept : (xs : List X) → ((x : X) → gone x ≡ true → p x ≡ false) → list_any p xs ≡ true → list_any p (delete_where gone xs) ≡ true
    any_kept [] h some = some
    any_kept (x ∷ xs) h some = go (gone x) (p x) refl refl some (any_kept xs h)
      where
        go : (b c : Bool) → gone x ≡ b → p x ≡ c → (c || list_any p xs) ≡ true → (list_any p xs ≡ true → list_any p (delete_where gone xs) ≡ true)
            → list_any p (cond (not b) (x ∷ delete_where gone xs) (delete_where gone xs)) ≡ true
        go true true t u s more = absurd (both_ways (p x) (h x t) u)
        go true false t u s more = more s
        go false true t u s more = ap (λ d. d || list_any p (delete_where gone xs)) u
        go false false t u s more = ap (λ d. d || list_any p (delete_where gone xs)) u ∙ more s

-- what holds of each row that passes holds of each that a filter keeps
pub all_filtered : {X : Type 0} (P : X → Type 0) (p : X → Bool) (xs : List X) → AllByRecursion (λ x. p x ≡ true → P x) xs → AllByRecursion P (filter p xs)
all_filtered P p [] h = tt
all_filtered P p (x ∷ xs) h = go (p x) refl (all_filtered P p xs h.1)
  where
    go : (b : Bool) → p x ≡ b → AllByRecursion P (filter p xs) → AllByRecursion P (cond b (x ∷ filter p xs) (filter p xs))
    go true t more = (h.0 t, more)
    go false t more = more

-- ---- numbered rows

module _ {X : Type 0} where
  abbrev has_number : ℕ → ℕ × X → Bool
  has_number id x = nat_eq x.0 id

  -- each number comes once
  pub one_a_number : (xs : List (ℕ × X)) (id : ℕ) → IsAscending (λ a b. a.0 < b.0) xs → IsAscending (λ a b. has_number id a ≡ true → has_number id b ≡ false) xs
  one_a_number [] id up = tt
  one_a_number (x ∷ xs) id up = (
    all_weaker (λ y. x.0 < y.0) (λ y. has_number id x ≡ true → has_number id y ≡ false) (λ y lt at. let same = eqb-true x.0 id at in ne_eqb y.0 id (omega arith)) xs up.0,
    one_a_number xs id up.1,
  )

  -- what is found by a test is found by its number
  pub found_by_number : (p : ℕ × X → Bool) (xs : List (ℕ × X)) (x : ℕ × X) → IsAscending (λ a b. a.0 < b.0) xs → find p xs ≡ Some x → find (has_number x.0) xs ≡ Some x
  found_by_number p [] x up e = cc
  found_by_number p (y ∷ ys) x up e = go (p y) e (found_by_number p ys x up.1)
    where
      go : (b : Bool) → cond b (Some y) (find p ys) ≡ Some x → (find p ys ≡ Some x → find (has_number x.0) ys ≡ Some x) → cond (has_number x.0 y) (Some y) (find (has_number x.0) ys) ≡ Some x
      go true f more =
          let same : y ≡ x = same_Some y x f in
          ap (λ b. cond b (Some y) (find (has_number x.0) ys)) (eq-eqb y.0 x.0 (ap (λ (z : ℕ × X). z.0) same)) ∙ f
      go false f more =
          let lt : y.0 < x.0 = found_holds p (λ z. y.0 < z.0) ys x up.0 f in
          ap (λ b. cond b (Some y) (find (has_number x.0) ys)) (ne_eqb y.0 x.0 (omega arith)) ∙ more f

  -- the rows of a found row's number are that row
  pub number_is : (p : ℕ × X → Bool) (xs : List (ℕ × X)) (x : ℕ × X) → IsAscending (λ a b. a.0 < b.0) xs → find p xs ≡ Some x → AllByRecursion (λ y. has_number x.0 y ≡ true → y ≡ x) xs
  number_is p xs x up e = only_one (has_number x.0) xs x (one_a_number xs x.0 up) (found_by_number p xs x up e)

  -- the last number is above the others
  pub below_last : (xs : List (ℕ × X)) (x : ℕ × X) → IsAscending (λ a b. a.0 < b.0) (xs ++ x ∷ []) → AllByRecursion (λ y. y.0 < x.0) xs
  below_last [] x up = tt
  below_last (y ∷ ys) x up = (last ys up.0, below_last ys x up.1)
    where
      last : (zs : List (ℕ × X)) → AllByRecursion (λ z. y.0 < z.0) (zs ++ x ∷ []) → y.0 < x.0
      last [] h = h.0
      last (z ∷ zs) h = last zs h.1

-- ---- entries that come in order

module _ {K X S : Type 0} {R : K → K → Ordering} (o : IsTotalOrder R) (P : S → FinMap R X → Type 0) (May : K × X → Type 0) (step : S → K × X → S) where
  -- what is taken out one by one
  pub along_drops : ((s : S) (m : FinMap R X) (e : K × X) → May e → P s m → P (step s e) (remove m e.0))
      → (s : S) (m : FinMap R X) (es : List (K × X)) → AllByRecursion May es → P s m → P (fold step s es) (fold (λ n e. remove n e.0) m es)
  along_drops one s m [] may h = h
  along_drops one s m (e ∷ es) may h = along_drops one (step s e) (remove m e.0) es may.1 (one s m e may.0 h)

  still_absent : (m : FinMap R X) (k : K) (v : X) (es : List (K × X)) → T (below_all R k es) → AllByRecursion (λ e. get m e.0 ≡ None) es → AllByRecursion (λ e. get (insert m k v) e.0 ≡ None) es
  still_absent m k v [] below h = tt
  still_absent m k v (e ∷ es) below h = (
    get-insert o m k v e.0
        ∙ ap (λ b. cond b (Some v) (get m e.0)) ((eq_by_cmp_equiv o).symm e.0 k ∙ less_apart (R k e.0) (and_left (is_lt (R k e.0)) (below_all R k es) below))
        ∙ h.0,
    still_absent m k v es (and_right (is_lt (R k e.0)) (below_all R k es) below) h.1,
  )

  -- what is put in one by one, each at a key that is free
  pub along_puts : ((s : S) (m : FinMap R X) (e : K × X) → May e → get m e.0 ≡ None → P s m → P (step s e) (insert m e.0 e.1))
      → (s : S) (m : FinMap R X) (es : List (K × X)) → T (is_sorted R es) → AllByRecursion May es → AllByRecursion (λ e. get m e.0 ≡ None) es → P s m
      → P (fold step s es) (fold (λ n e. insert n e.0 e.1) m es)
  along_puts one s m [] sorted may free h = h
  along_puts one s m (e ∷ es) sorted may free h =
      along_puts one (step s e) (insert m e.0 e.1) es (and_right (below_all R e.0 es) (is_sorted R es) sorted) may.1
      (still_absent m e.0 e.1 es (and_left (below_all R e.0 es) (is_sorted R es) sorted) free.1)
      (one s m e may.0 free.0 h)
