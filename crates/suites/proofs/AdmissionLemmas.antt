-- What admitting items changes of the shelves.
use Rattle.std.proofs.Common.{◌≡◌, ◌≢◌, ℕ, zero, suc, Bool, true, false, cond, not, List, [], ◌∷◌, ◌++◌, map, append_assoc, length, refl, sym, ap, subst, ◌∙◌, Option, Some, None, arith}
use Rattle.std.specs.Prelude.{AllPairs, T, is_some, option_to_list}
use Rattle.std.specs.List.{AllByRecursion, fold}
use Rattle.std.specs.Option.{option_map_or}
use Rattle.std.specs.Ordering.{eq_by_cmp, is_lt}
use Rattle.std.specs.BTreeMap as tree
use Rattle.std.specs.BTreeMap.{BTreeMap, Updates}
use Rattle.std.specs.Cmp.{tied_itself, eq_by_cmp_equiv}
use Rattle.std.specs.FinMap.{get, insert, find, is_sorted, get-insert}
use Rattle.std.specs.FinMap.Entries.{below_all, find-append}
use Rattle.std.proofs.lemmas.List.{map-append}
use Rattle.std.proofs.lemmas.Grind.{flat_map-append}
use Rattle.std.proofs.lemmas.List.Elements.{filter-append, recursion_from_All}
use Rattle.std.proofs.lemmas.Option.{same_Some}
use Rattle.vers.proofs.Laws.{version_cmp_total}
use Rattle.suites.specs.Admission.{arriving, standing_at, replaced}
use Rattle.suites.specs.Change.{IsChange}
use Rattle.suites.specs.Items.{standing}
use Rattle.suites.specs.Keys.{key_order}
use Rattle.suites.specs.KeyLemmas.{key_order_total, key_order-IsAntisymmetric}
use Rattle.suites.specs.Shelves.{ShelvesWith, is_at_least, is_covered, with_admitted, shown_after}
use Rattle.suites.specs.declared.item.Item.{Item}
use Rattle.suites.specs.declared.key.ShelfKey.{ShelfKey}
use Rattle.suites.proofs.EntryLemmas.{and_left, and_right, and_T, sorted-filter, tied_behind, found_at, find-none, same_keys}
use Rattle.suites.proofs.HeldLemmas.{append_nil, by_pushes}
use Rattle.suites.proofs.MapChanges.{or_else, IsChange-from_gets}
use Rattle.suites.proofs.ShownLemmas.{shown_after-none, shown_after-push}

at_least-itself : (v : List ℕ) → is_at_least v v ≡ true
unfolding is_at_least
at_least-itself v = ap (λ r. not (is_lt r)) (tied_itself version_cmp_total v)

-- each entry has a key of its own
abbrev pub AreApart : {X : Type 0} → List (ShelfKey × X) → Type 0
AreApart [] = Unit {0}
AreApart (a ∷ xs) = AllByRecursion (λ b. a.0 ≢ b.0) xs × AreApart xs

pub apart_from_pairs : {X : Type 0} (xs : List (ShelfKey × X)) → AllPairs (λ a b. a.0 ≢ b.0) xs → AreApart xs
apart_from_pairs [] pairs = tt
apart_from_pairs (a ∷ xs) pairs = (
  recursion_from_All (λ b. a.0 ≢ b.0) xs (λ k d lt. pairs zero (suc k) d (omega arith) (omega arith)),
  apart_from_pairs xs (λ i j d below lt. pairs (suc i) (suc j) d (omega arith) (omega arith)),
)

module _ {X : Type 0} (version : X → List ℕ) where
  -- an item of a version at least as great is there
  abbrev reached : X → Option X → Bool
  reached v shown = option_map_or (λ x. is_at_least (version x) (version v)) shown false

  -- what a shelf shows after one item comes, or none
  abbrev pub chosen : Option X → Option X → Option X
  chosen None shown = shown
  chosen (Some v) shown = cond (reached v shown) shown (Some v)

  -- what comes and is not covered
  abbrev pub uncovered : Option X → Option X → Option X
  uncovered None shown = None
  uncovered (Some v) shown = cond (reached v shown) None (Some v)

  get-with_admitted : (m : ShelvesWith X) (a : ShelfKey × X) (q : ShelfKey) → get (with_admitted version m a) q ≡ cond (eq_by_cmp key_order q a.0) (chosen (Some a.1) (get m q)) (get m q)
  get-with_admitted m a q =
      elim (reached a.1 (get m a.0)) as (λ r. reached a.1 (get m a.0) ≡ r → get (cond r m (insert m a.0 a.1)) q ≡ cond (eq_by_cmp key_order q a.0) (chosen (Some a.1) (get m q)) (get m q)) [
        | true ↦ λ e. elim (eq_by_cmp key_order q a.0) as (λ b. eq_by_cmp key_order q a.0 ≡ b → get m q ≡ cond b (chosen (Some a.1) (get m q)) (get m q)) [
          | true ↦ λ tied. sym (ap (λ r. cond r (get m q) (Some a.1)) (at_key tied ∙ e))
          | false ↦ λ other. refl
        ] refl
        | false ↦ λ e. get-insert key_order_total m a.0 a.1 q ∙ elim (eq_by_cmp key_order q a.0) as (λ b. eq_by_cmp key_order q a.0 ≡ b → cond b (Some a.1) (get m q) ≡ cond b (chosen (Some a.1) (get m q)) (get m q)) [
          | true ↦ λ tied. sym (ap (λ r. cond r (get m q) (Some a.1)) (at_key tied ∙ e))
          | false ↦ λ other. refl
        ] refl
      ] refl
    where
      at_key : eq_by_cmp key_order q a.0 ≡ true → reached a.1 (get m q) ≡ reached a.1 (get m a.0)
      at_key tied = ap (λ k. reached a.1 (get m k)) (same_keys key_order-IsAntisymmetric q a.0 tied)

  get-admitted : (m : ShelvesWith X) (xs : List (ShelfKey × X)) (q : ShelfKey) → AreApart xs → get (fold (with_admitted version) m xs) q ≡ chosen (find key_order q xs) (get m q)
  get-admitted m [] q apart = refl
  get-admitted m (a ∷ xs) q apart =
      get-admitted (with_admitted version m a) xs q apart.1
      ∙ ap (chosen (find key_order q xs)) (get-with_admitted m a q)
      ∙ elim (eq_by_cmp key_order q a.0) as (λ b. eq_by_cmp key_order q a.0 ≡ b → chosen (find key_order q xs) (cond b (chosen (Some a.1) (get m q)) (get m q)) ≡ chosen (cond b (Some a.1) (find key_order q xs)) (get m q)) [
        | true ↦ λ tied. ap (λ f. chosen f (chosen (Some a.1) (get m q)))
            (ap (λ k. find key_order k xs) (same_keys key_order-IsAntisymmetric q a.0 tied) ∙ find-none key_order_total key_order-IsAntisymmetric a.0 xs apart.0)
        | false ↦ λ other. refl
      ] refl

  shown_after-fold : (m : ShelvesWith X) (xs : List (ShelfKey × X)) → shown_after version m xs ≡ fold (with_admitted version) m xs
  shown_after-fold m xs =
      by_pushes (λ done. shown_after version m done ≡ fold (with_admitted version) m done)
      (λ done a e. shown_after-push version m done a ∙ ap (λ n. with_admitted version n a) e ∙ sym (fold-push m done a))
      [] xs (shown_after-none version m)
    where
      fold-push : (m : ShelvesWith X) (done : List (ShelfKey × X)) (a : ShelfKey × X) → fold (with_admitted version) m (done ++ a ∷ []) ≡ with_admitted version (fold (with_admitted version) m done) a
      fold-push m [] a = refl
      fold-push m (b ∷ bs) a = fold-push (with_admitted version m b) bs a

  -- what each shelf shows after some items come, each to a shelf of its own
  pub get-shown_after : (m : ShelvesWith X) (xs : List (ShelfKey × X)) (q : ShelfKey) → AreApart xs → get (shown_after version m xs) q ≡ chosen (find key_order q xs) (get m q)
  get-shown_after m xs q apart = ap (λ n. get n q) (shown_after-fold m xs) ∙ get-admitted m xs q apart

  find-arriving : (m : ShelvesWith X) (es : List (ShelfKey × X)) (q : ShelfKey) → T (is_sorted key_order es) → find key_order q (arriving version m es) ≡ uncovered (find key_order q es) (get m q)
  find-arriving m [] q sorted = refl
  find-arriving m (e ∷ es) q sorted =
      let rest = find-arriving m es q (and_right (below_all key_order e.0 es) _ sorted) in
      elim (eq_by_cmp key_order q e.0) as (λ b. eq_by_cmp key_order q e.0 ≡ b → find key_order q (arriving version m (e ∷ es)) ≡ uncovered (cond b (Some e.1) (find key_order q es)) (get m q)) [
        | true ↦ λ tied.
            let at : reached e.1 (get m e.0) ≡ reached e.1 (get m q) = ap (λ k. reached e.1 (get m k)) (sym (same_keys key_order-IsAntisymmetric q e.0 tied)) in
            elim (reached e.1 (get m e.0)) as (λ r. reached e.1 (get m e.0) ≡ r → find key_order q (cond (not r) (e ∷ arriving version m es) (arriving version m es)) ≡ uncovered (Some e.1) (get m q)) [
              | true ↦ λ r. rest ∙ ap (λ f. uncovered f (get m q)) (tied_behind key_order_total e.0 q es (and_left _ _ sorted) tied) ∙ sym (ap (λ c. cond c None (Some e.1)) (sym at ∙ r))
              | false ↦ λ r. ap (λ b. cond b (Some e.1) (find key_order q (arriving version m es))) tied ∙ sym (ap (λ c. cond c None (Some e.1)) (sym at ∙ r))
            ] refl
        | false ↦ λ other.
            elim (reached e.1 (get m e.0)) as (λ r. find key_order q (cond (not r) (e ∷ arriving version m es) (arriving version m es)) ≡ uncovered (find key_order q es) (get m q)) [
              | true ↦ rest
              | false ↦ ap (λ b. cond b (Some e.1) (find key_order q (arriving version m es))) other ∙ rest
            ]
      ] refl

  find-placed : (k q : ShelfKey) (o : Option X) (rest : List (ShelfKey × X))
      → find key_order q (map (λ x. (k, x)) (option_to_list o) ++ rest) ≡ cond (eq_by_cmp key_order q k) (or_else o (find key_order q rest)) (find key_order q rest)
  find-placed k q None rest = elim (eq_by_cmp key_order q k) as (λ b. find key_order q rest ≡ cond b (find key_order q rest) (find key_order q rest)) [ true ↦ refl | false ↦ refl ]
  find-placed k q (Some x) rest = refl

  find-replaced : (m : ShelvesWith X) (xs : List (ShelfKey × X)) (q : ShelfKey) → find key_order q (replaced m xs) ≡ cond (is_some (find key_order q xs)) (get m q) None
  find-replaced m [] q = refl
  find-replaced m (a ∷ xs) q =
      find-placed a.0 q (get m a.0) (replaced m xs)
      ∙ ap (λ r. cond (eq_by_cmp key_order q a.0) (or_else (get m a.0) r) r) (find-replaced m xs q)
      ∙ elim (eq_by_cmp key_order q a.0) as (λ b. eq_by_cmp key_order q a.0 ≡ b → cond b (or_else (get m a.0) (cond (is_some (find key_order q xs)) (get m q) None)) (cond (is_some (find key_order q xs)) (get m q) None)
      ≡ cond (is_some (cond b (Some a.1) (find key_order q xs))) (get m q) None) [
        | true ↦ λ tied. ap (λ o. or_else o (cond (is_some (find key_order q xs)) (get m q) None)) (ap (get m) (sym (same_keys key_order-IsAntisymmetric q a.0 tied)))
            ∙ either (is_some (find key_order q xs)) (get m q)
        | false ↦ λ other. refl
      ] refl
    where
      either : (b : Bool) (o : Option X) → or_else o (cond b o None) ≡ o
      either true None = refl
      either false None = refl
      either b (Some x) = refl

  below-placed : (k j : ShelfKey) (o : Option X) (rest : List (ShelfKey × X)) → T (is_lt (key_order k j)) → T (below_all key_order k rest)
      → T (below_all key_order k (map (λ x. (j, x)) (option_to_list o) ++ rest))
  below-placed k j None rest less below = below
  below-placed k j (Some x) rest less below = and_T _ _ less below

  below-replaced : (m : ShelvesWith X) (k : ShelfKey) (xs : List (ShelfKey × X)) → T (below_all key_order k xs) → T (below_all key_order k (replaced m xs))
  below-replaced m k [] below = tt
  below-replaced m k (a ∷ xs) below =
      below-placed k a.0 (get m a.0) (replaced m xs) (and_left _ _ below) (below-replaced m k xs (and_right (is_lt (key_order k a.0)) _ below))

  sorted-placed : (k : ShelfKey) (o : Option X) (rest : List (ShelfKey × X)) → T (below_all key_order k rest) → T (is_sorted key_order rest)
      → T (is_sorted key_order (map (λ x. (k, x)) (option_to_list o) ++ rest))
  sorted-placed k None rest below sorted = sorted
  sorted-placed k (Some x) rest below sorted = and_T _ _ below sorted

  sorted-replaced : (m : ShelvesWith X) (xs : List (ShelfKey × X)) → T (is_sorted key_order xs) → T (is_sorted key_order (replaced m xs))
  sorted-replaced m [] sorted = tt
  sorted-replaced m (a ∷ xs) sorted =
      sorted-placed a.0 (get m a.0) (replaced m xs) (below-replaced m a.0 xs (and_left _ _ sorted)) (sorted-replaced m xs (and_right (below_all key_order a.0 xs) _ sorted))

  -- the new look-up of a shelf, by what is put there and dropped from there
  after : (arriving shown : Option X)
      → chosen arriving shown ≡ or_else (uncovered arriving shown) (cond (is_some (cond (is_some (uncovered arriving shown)) shown None)) None shown)
  after None shown = refl
  after (Some v) shown = elim (reached v shown) as (λ r. cond r shown (Some v)
      ≡ or_else (cond r None (Some v)) (cond (is_some (cond (is_some (cond r None (Some v))) shown None)) None shown)) [ true ↦ refl | false ↦ refl ]

  none_left : (o : Option X) → cond (is_some o) None o ≡ None
  none_left None = refl
  none_left (Some x) = refl

  -- what is dropped was shown
  was_shown : (put : Option X) (shown : Option X) (x : X) → cond (is_some put) shown None ≡ Some x → shown ≡ Some x
  was_shown None shown x e = cc
  was_shown (Some v) shown x e = e

  -- what takes the place of a dropped item is another item
  is_other : (arriving shown : Option X) (x : X) → cond (is_some (uncovered arriving shown)) shown None ≡ Some x → chosen arriving shown ≢ Some x
  is_other None shown x e same = cc
  is_other (Some v) shown x e same = by_case (reached v shown) refl
    where
      by_case : (r : Bool) → reached v shown ≡ r → ⊥
      by_case true r = (let none : cond (is_some (cond (reached v shown) None (Some v))) shown None ≡ None = ap (λ r. cond (is_some (cond r None (Some v))) shown None) r in cc)
      by_case false r =
          let dropped : shown ≡ Some x = sym (ap (λ r. cond (is_some (cond r None (Some v))) shown None) r) ∙ e in
          let put : v ≡ x = same_Some v x (sym (ap (λ r. cond r shown (Some v)) r) ∙ same) in
          let yes : reached v shown ≡ true = ap (reached v) dropped ∙ ap (λ y. is_at_least (version y) (version v)) (sym put) ∙ at_least-itself (version v) in
          cc

  -- The items that come, in the order of their shelves, each to a shelf of its own: those that are not covered are put,
  -- and what they replace is dropped.
  pub admission : (m : ShelvesWith X) (items entries : List (ShelfKey × X)) → AreApart items → T (is_sorted key_order entries)
      → ((q : ShelfKey) → find key_order q entries ≡ find key_order q items)
      → IsChange m (shown_after version m items) (arriving version m entries) (replaced m (arriving version m entries))
  admission m items entries apart sorted same =
      IsChange-from_gets key_order_total key_order-IsAntisymmetric m (shown_after version m items) put dropped put_sorted (sorted-replaced m put put_sorted)
      (λ q. new_at q ∙ after (find key_order q entries) (get m q) ∙ sym (λ i. or_else (find-arriving m entries q sorted i) (cond (is_some (dropped_at q i)) None (get m q))))
      (λ k d lt. absent_at _ (found_at key_order_total put put_sorted k d lt))
      (λ k d lt. gone_at _ (found_at key_order_total dropped (sorted-replaced m put put_sorted) k d lt))
    where
      put : List (ShelfKey × X)
      put = arriving version m entries

      dropped : List (ShelfKey × X)
      dropped = replaced m (arriving version m entries)

      put_sorted : T (is_sorted key_order (arriving version m entries))
      put_sorted = sorted-filter key_order (λ a. not (is_covered version m a)) entries sorted

      new_at : (q : ShelfKey) → get (shown_after version m items) q ≡ chosen (find key_order q entries) (get m q)
      new_at q = get-shown_after m items q apart ∙ ap (λ f. chosen f (get m q)) (sym (same q))

      dropped_at : (q : ShelfKey) → find key_order q (replaced m (arriving version m entries)) ≡ cond (is_some (uncovered (find key_order q entries) (get m q))) (get m q) None
      dropped_at q = find-replaced m (arriving version m entries) q ∙ ap (λ f. cond (is_some f) (get m q) None) (find-arriving m entries q sorted)

      absent_at : (e : ShelfKey × X) → find key_order e.0 (arriving version m entries) ≡ Some e.1
          → cond (is_some (find key_order e.0 (replaced m (arriving version m entries)))) None (get m e.0) ≡ None
      absent_at e found =
          ap (λ o. cond (is_some o) None (get m e.0)) (find-replaced m (arriving version m entries) e.0 ∙ ap (λ o. cond (is_some o) (get m e.0) None) found)
          ∙ none_left (get m e.0)

      gone_at : (e : ShelfKey × X) → find key_order e.0 (replaced m (arriving version m entries)) ≡ Some e.1
          → (get m e.0 ≡ Some e.1) × (get (shown_after version m items) e.0 ≢ Some e.1)
      gone_at e found =
          let there = sym (dropped_at e.0) ∙ found in (
            was_shown (uncovered (find key_order e.0 entries) (get m e.0)) (get m e.0) e.1 there,
            λ back. is_other (find key_order e.0 entries) (get m e.0) e.1 there (sym (new_at e.0) ∙ back),
          )

-- a key that comes later is not found among the earlier ones
apart-before : {X : Type 0} (xs ys : List (ShelfKey × X)) (a : ShelfKey × X) → AreApart (xs ++ a ∷ ys) → find key_order a.0 xs ≡ None
apart-before [] ys a apart = refl
apart-before {X = X} (x ∷ xs) ys a apart =
    elim (eq_by_cmp key_order a.0 x.0) as (λ b. eq_by_cmp key_order a.0 x.0 ≡ b → cond b (Some x.1) (find key_order a.0 xs) ≡ None) [
      | true ↦ λ tied. absurd (other xs apart.0 (sym (same_keys key_order-IsAntisymmetric a.0 x.0 tied)))
      | false ↦ λ e. apart-before xs ys a apart.1
    ] refl
  where
    other : (xs : List (ShelfKey × X)) → AllByRecursion (λ b. x.0 ≢ b.0) (xs ++ a ∷ ys) → x.0 ≢ a.0
    other [] all = all.0
    other (z ∷ zs) all = other zs all.1

-- one item more among those that stand on their shelves
pub stand-more : {X : Type 0} (m n : BTreeMap ShelfKey X) (xs ys : List (ShelfKey × X)) (a : ShelfKey × X) → AreApart (xs ++ a ∷ ys)
    → Updates key_order m n a.0 (Some a.1) → ((q : ShelfKey) → tree.get key_order m q ≡ find key_order q xs)
    → (q : ShelfKey) → tree.get key_order n q ≡ find key_order q (xs ++ a ∷ [])
stand-more m n xs ys a apart updates stand q =
    updates.0 q
    ∙ (λ i. cond ((eq_by_cmp_equiv key_order_total).symm a.0 q i) (Some a.1) (stand q i))
    ∙ sym (find-append key_order key_order_total xs a.0 a.1 q (apart-before xs ys a apart))

-- the items that stand on their shelves, and those that come next
abbrev pub StandSoFar : ℕ → List Item → List Item → List Item → BTreeMap ShelfKey Item → Type 0
StandSoFar suite all done next shelves =
    (done ++ next ≡ all) × ((q : ShelfKey) → tree.get key_order shelves q ≡ find key_order q (map (standing suite) done))

pub stand-step : (suite : ℕ) (all done next later : List Item) (item : Item) (key : ShelfKey) (m n : BTreeMap ShelfKey Item)
    → AllPairs (λ a b. a.0 ≢ b.0) (map (standing suite) all) → next ≡ item ∷ later
    → key ≡ (standing suite item).0 → Updates key_order m n key (Some item)
    → StandSoFar suite all done next m → StandSoFar suite all (done ++ item ∷ []) later n
stand-step suite all done next later item key m n pairs is at updates so_far =
    let whole : done ++ item ∷ later ≡ all = ap (λ rest. done ++ rest) (sym is) ∙ so_far.0 in
    let apart : AreApart (map (standing suite) done ++ standing suite item ∷ map (standing suite) later) =
    subst AreApart (ap (map (standing suite)) (sym whole) ∙ map-append (standing suite) done (item ∷ later)) (apart_from_pairs (map (standing suite) all) pairs) in (
      append_assoc done (item ∷ []) later ∙ whole,
      λ q. stand-more m n (map (standing suite) done) (map (standing suite) later) (standing suite item) apart
          (subst (λ (k : ShelfKey). Updates key_order m n k (Some item)) at updates) so_far.1 q
          ∙ ap (find key_order q) (sym (map-append (standing suite) done (item ∷ []))),
    )

pub stand-all : (suite : ℕ) (all done next : List Item) (shelves : BTreeMap ShelfKey Item) → length next ≡ 0
    → StandSoFar suite all done next shelves → (q : ShelfKey) → tree.get key_order shelves q ≡ find key_order q (map (standing suite) all)
stand-all suite all done [] shelves none so_far q = so_far.1 q ∙ ap (λ items. find key_order q (map (standing suite) items)) (sym (append_nil done) ∙ so_far.0)
stand-all suite all done (x ∷ next) shelves none so_far q = absurd (omega arith)

-- one item more
pub arriving-push : {X : Type 0} (version : X → List ℕ) (m : ShelvesWith X) (done : List (ShelfKey × X)) (a : ShelfKey × X)
    → arriving version m done ++ arriving version m (a ∷ []) ≡ arriving version m (done ++ a ∷ [])
arriving-push version m done a = sym (filter-append (λ b. not (is_covered version m b)) done (a ∷ []))

pub replaced-push : {X : Type 0} (version : X → List ℕ) (m : ShelvesWith X) (done : List (ShelfKey × X)) (a : ShelfKey × X)
    → replaced m (arriving version m done) ++ replaced m (arriving version m (a ∷ [])) ≡ replaced m (arriving version m (done ++ a ∷ []))
replaced-push version m done a =
    sym (flat_map-append (λ b. standing_at m b.0) (arriving version m done) (arriving version m (a ∷ [])))
    ∙ ap (replaced m) (arriving-push version m done a)
