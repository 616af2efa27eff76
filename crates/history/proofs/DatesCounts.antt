-- How many items that a suite did not show it shows after a plan: as many as the plan puts.
use Rattle.std.proofs.Common.{◌≡◌, ◌≢◌, ℕ, Bool, true, false, cond, not, ◌&&◌, List, [], ◌∷◌, ◌++◌, map, filter, length, Option, Some, None, option_map, option_and_then, nat_eq, refl, sym, ap, ◌∙◌, inl, inr, append_assoc, append-nil, true≢false}
use Rattle.std.specs.Prelude.{Contains, T}
use Rattle.std.specs.Cmp.{IsTotalOrder}
use Rattle.std.specs.FinMap.{FinMap, IsAntisymmetric, entries, entries_sorted, find, get, get-entries, get-insert, get-remove, insert, is_sorted, remove}
use Rattle.std.specs.FinMap.Entries.{below_all, same_entries}
use Rattle.std.specs.List.{list_any}
use Rattle.std.specs.Ordering.{eq_by_cmp, is_lt}
use Rattle.std.specs.declared.cmp.Ordering.{Ordering}
use Rattle.std.proofs.lemmas.Bool.Decides.{Decides-eqb}
use Rattle.std.proofs.lemmas.List.{length-map}
use Rattle.std.proofs.lemmas.List.Elements.{Contains-append_left, Contains-push}
use Rattle.std.proofs.lemmas.Option.{same_Some}
use Rattle.std.proofs.lemmas.Bool.{and_from}
use Rattle.sums.proofs.Booleans.{both}
use Rattle.sums.proofs.Members.{all_at}
use Rattle.suites.specs.Change.{IsChange, with_all, without}
use Rattle.suites.proofs.HeldLemmas.{by_pushes}
use Rattle.suites.specs.KeyLemmas.{key_order_total, key_order-IsAntisymmetric}
use Rattle.suites.specs.Keys.{key_order}
use Rattle.suites.specs.Shelves.{ShelvesValue, ShelvesWith, is_covered, shown}
use Rattle.suites.proofs.ShownLemmas.{shown-push, true_from_T}
use Rattle.suites.specs.declared.item.Item.{Item}
use Rattle.suites.specs.declared.key.ShelfKey.{ShelfKey}
use Rattle.suites.specs.declared.plan.Plan.{Plan}
use Rattle.suites.proofs.FileMembers.{member_found}
use Rattle.suites.proofs.EntryLemmas.{same_keys, sorted-filter, tied_behind}
use Rattle.suites.proofs.PassingEntries.{find-filter}
use Rattle.history.specs.Archives.{BodyItem, version_with}
use Rattle.history.proofs.ContentsMaps.{find-map, on_value}
use Rattle.history.proofs.Dates.{ArePrinted, Grows, IsHeir, above-other, has_version, same_version, some_printed, taken_out, with_all_apart}
use Rattle.history.proofs.ShownPrints.{printed_item}

-- ---- lists in the order of their keys

pub T_from_true : (b : Bool) → b ≡ true → T b
T_from_true true h = tt
T_from_true false h = cc

module _ {K X : Type 0} (R : K → K → Ordering) where
  not_found : (q : K) (e : K × X) (es : List (K × X)) (b : Bool) → eq_by_cmp R q e.0 ≡ b → cond b (Some e.1) (find R q es) ≡ None → (find R q es ≡ None → list_any (λ e. eq_by_cmp R q e.0) es ≡ false)
      → list_any (λ e. eq_by_cmp R q e.0) (e ∷ es) ≡ false
  not_found q e es true t h more = cc
  not_found q e es false t h more = rw t (more h)

  -- a key that is not found is that of no entry
  none_tied : (q : K) (es : List (K × X)) → find R q es ≡ None → list_any (λ e. eq_by_cmp R q e.0) es ≡ false
  none_tied q [] h = refl
  none_tied q (e ∷ es) h = not_found q e es (eq_by_cmp R q e.0) refl h (none_tied q es)

module _ {K X Y : Type 0} (R : K → K → Ordering) (f : X → Y) where
  below_map : (k : K) (es : List (K × X)) → below_all R k (map (on_value R f) es) ≡ below_all R k es
  below_map k [] = refl
  below_map k (e ∷ es) = ap (λ b. is_lt (R k e.0) && b) (below_map k es)

  sorted_map : (es : List (K × X)) → is_sorted R (map (on_value R f) es) ≡ is_sorted R es
  sorted_map [] = refl
  sorted_map (e ∷ es) = (λ i. below_map e.0 es i && sorted_map es i)

module _ {K X : Type 0} {R : K → K → Ordering} (total : IsTotalOrder R) (same : IsAntisymmetric R) where
  -- what is put is there
  found_put : (m : FinMap R X) (e : K × X) (es : List (K × X)) (q : K) (x : X) → below_all R e.0 es ≡ true → (t : Bool) → eq_by_cmp R q e.0 ≡ t → cond t (Some e.1) (find R q es) ≡ Some x
      → (find R q es ≡ Some x → get (with_all (insert m e.0 e.1) es) q ≡ Some x) → get (with_all (insert m e.0 e.1) es) q ≡ Some x
  found_put m e es q x below true t h more =
      with_all_apart total same (insert m e.0 e.1) es q (none_tied R q es (tied_behind total e.0 q es (T_from_true _ below) t))
      ∙ get-insert total m e.0 e.1 q ∙ ap (λ b. cond b (Some e.1) (get m q)) t ∙ h
  found_put m e es q x below false t h more = more h

  put_found : (m : FinMap R X) (es : List (K × X)) (q : K) (x : X) → is_sorted R es ≡ true → find R q es ≡ Some x → get (with_all m es) q ≡ Some x
  unfolding with_all
  put_found m [] q x sorted h = cc
  put_found m (e ∷ es) q x sorted h =
      let parts = both (below_all R e.0 es) (is_sorted R es) sorted in
      found_put m e es q x parts.0 (eq_by_cmp R q e.0) refl h (put_found (insert m e.0 e.1) es q x parts.1)

  not_removed : (b : Bool) (o : Option X) (x : X) → cond b None o ≡ Some x → o ≡ Some x
  not_removed true o x h = cc
  not_removed false o x h = h

  -- what is left was there
  left_there : (m : FinMap R X) (es : List (K × X)) (q : K) (x : X) → get (without m es) q ≡ Some x → get m q ≡ Some x
  unfolding without
  left_there m [] q x h = h
  left_there m (e ∷ es) q x h = not_removed (eq_by_cmp R q e.0) (get m q) x (sym (get-remove total m e.0 q) ∙ left_there (remove m e.0) es q x h)

-- ---- items of one suite

-- items that are admitted to one suite change no other
pub shown_elsewhere : {X : Type 0} (version : X → List ℕ) (suite : ℕ) (xs ys : List (ShelfKey × X)) → ((e : ShelfKey × X) → Contains ys e → e.0.suite ≡ suite)
    → (q : ShelfKey) → q.suite ≢ suite → get (shown version (xs ++ ys)) q ≡ get (shown version xs) q
shown_elsewhere {X} version suite xs ys on q other =
    by_pushes (λ done. ((e : ShelfKey × X) → Contains done e → e.0.suite ≡ suite) → get (shown version (xs ++ done)) q ≡ get (shown version xs) q)
    (λ done a before all.
    ap (λ (zs : List (ShelfKey × X)). get (shown version zs) q) (sym (append_assoc xs done (a ∷ [])))
    ∙ ap (λ (m : ShelvesWith X). get m q) (shown-push version (xs ++ done) a)
    ∙ admitted_elsewhere (shown version (xs ++ done)) a (all a (Contains-push done a)) (is_covered version (shown version (xs ++ done)) a)
    ∙ before (λ e at. all e (Contains-append_left done (a ∷ []) e at)))
    [] ys (λ all. ap (λ (zs : List (ShelfKey × X)). get (shown version zs) q) (append-nil xs)) on
  where
    apart : (a : ShelfKey × X) → a.0.suite ≡ suite → (b : Bool) → eq_by_cmp key_order q a.0 ≡ b → b ≡ false
    apart a at true tied = absurd (other (ap (λ (k : ShelfKey). k.suite) (same_keys key_order-IsAntisymmetric q a.0 tied) ∙ at))
    apart a at false tied = refl

    admitted_elsewhere : (m : ShelvesWith X) (a : ShelfKey × X) → a.0.suite ≡ suite → (b : Bool) → get (cond b m (insert m a.0 a.1)) q ≡ get m q
    admitted_elsewhere m a at true = refl
    admitted_elsewhere m a at false = get-insert key_order_total m a.0 a.1 q ∙ ap (λ b. cond b (Some a.1) (get m q)) (apart a at (eq_by_cmp key_order q a.0) refl)

module _ (suite : ℕ) (old new : ShelvesWith BodyItem) (before after : ShelvesValue) (plan : Plan) (was : ArePrinted old before) (is : ArePrinted new after)
    (grown : Grows version_with old new) (change : IsChange before after plan.put plan.dropped)
    (elsewhere : (q : ShelfKey) → q.suite ≢ suite → get new q ≡ get old q) where
  -- an item of the suite that it did not show before
  abbrev is_new : ShelfKey × BodyItem → Bool
  is_new e = nat_eq e.0.suite suite && not (has_version (get old e.0) e.1)

  abbrev added : List (ShelfKey × BodyItem)
  added = filter is_new (entries new)

  find_added : (q : ShelfKey) → find key_order q (map (on_value key_order printed_item) added) ≡ option_map printed_item (option_and_then (λ y. cond (is_new (q, y)) (Some y) None) (get new q))
  find_added q =
      find-map key_order printed_item q added
      ∙ ap (option_map printed_item) (find-filter key_order_total key_order-IsAntisymmetric is_new q (entries new) (entries_sorted new)
      ∙ ap (option_and_then (λ y. cond (is_new (q, y)) (Some y) None)) (sym (get-entries new q)))

  -- an old item is not new
  old_item : (q : ShelfKey) (y : BodyItem) → get before q ≡ Some (printed_item y) → is_new (q, y) ≡ false
  old_item q y h =
      let there : has_version (get old q) y ≡ true = same_version (get old q) y (sym (was q) ∙ h) in
      by_case (nat_eq q.suite suite) there
    where
      by_case : (b : Bool) → has_version (get old q) y ≡ true → (b && not (has_version (get old q) y)) ≡ false
      by_case true there = ap not there
      by_case false there = refl

  not_put : (q : ShelfKey) → find key_order q plan.put ≡ None → (o : Option BodyItem) → get new q ≡ o → option_map printed_item (option_and_then (λ y. cond (is_new (q, y)) (Some y) None) o) ≡ None
  not_put q none None h = refl
  not_put q none (Some y) h =
      let left : get (without before plan.dropped) q ≡ Some (printed_item y) =
      sym (with_all_apart key_order_total key_order-IsAntisymmetric (without before plan.dropped) plan.put q (none_tied key_order q plan.put none))
      ∙ sym (ap (λ (m : ShelvesValue). get m q) change.made) ∙ is q ∙ ap (option_map printed_item) h in
      ap (λ b. option_map printed_item (cond b (Some y) None)) (old_item q y (left_there key_order_total key_order-IsAntisymmetric before plan.dropped q (printed_item y) left))

  -- if something is put at a place, what was there does not stay as it was
  replaced : (q : ShelfKey) (p : Item) (x : BodyItem) → find key_order q plan.put ≡ Some p → get old q ≡ Some x → get after q ≢ Some (printed_item x)
  replaced q p x found h now =
      let at = member_found key_order-IsAntisymmetric q p plan.put found in
      let absent : get (without before plan.dropped) q ≡ None = all_at (λ (e : ShelfKey × Item). get (without before plan.dropped) e.0 ≡ None) plan.put (q, p) change.absent at in
      let held : get before q ≡ Some (printed_item x) = was q ∙ ap (option_map printed_item) h in
      let d = taken_out key_order_total key_order-IsAntisymmetric before plan.dropped q (printed_item x) held absent in
      let gone = all_at (λ (e : ShelfKey × Item). (get before e.0 ≡ Some e.1) × (get after e.0 ≢ Some e.1)) plan.dropped d.0 change.gone d.1 in
      let value : Some (printed_item x) ≡ Some (d.0).1 = sym held ∙ ap (get before) d.2 ∙ gone.0 in
      gone.1 (ap (get after) (sym d.2) ∙ now ∙ value)

  put_suite : (q : ShelfKey) (p : Item) (y : BodyItem) → find key_order q plan.put ≡ Some p → get new q ≡ Some y → (b : Bool) → nat_eq q.suite suite ≡ b → b ≡ true
  put_suite q p y found h true e = refl
  put_suite q p y found h false e =
      let other : q.suite ≢ suite = λ at. true≢false (sym ((Decides-eqb q.suite suite).1 at) ∙ e) in
      absurd (replaced q p y found (sym (elsewhere q other) ∙ h) (is q ∙ ap (option_map printed_item) h))

  put_version : (q : ShelfKey) (p : Item) (y : BodyItem) → find key_order q plan.put ≡ Some p → get new q ≡ Some y → (o : Option BodyItem) → get old q ≡ o → has_version o y ≡ false
  put_version q p y found h None e = refl
  put_version q p y found h (Some x) e = heir (grown q x e).0 (grown q x e).1 (grown q x e).2
    where
      heir : (z : BodyItem) → get new q ≡ Some z → IsHeir version_with x z → has_version (Some x) y ≡ false
      heir z now (inl same) = absurd (replaced q p x found e (is q ∙ ap (option_map printed_item) (now ∙ ap Some same)))
      heir z now (inr above) = ap (λ (i : BodyItem). has_version (Some x) i) (same_Some y z (sym h ∙ now)) ∙ above-other z.version x.version above

  put_new : (q : ShelfKey) (p : Item) → find key_order q plan.put ≡ Some p → option_map printed_item (option_and_then (λ y. cond (is_new (q, y)) (Some y) None) (get new q)) ≡ Some p
  put_new q p found =
      let now : get after q ≡ Some p =
      ap (λ (m : ShelvesValue). get m q) change.made
      ∙ put_found key_order_total key_order-IsAntisymmetric (without before plan.dropped) plan.put q p (true_from_T _ change.put_in_order) found in
      let y = some_printed (get new q) p (sym (is q) ∙ now) in
      let fresh : is_new (q, y.0) ≡ true =
      and_from (nat_eq q.suite suite) (not (has_version (get old q) y.0)) (put_suite q p y.0 found y.1 (nat_eq q.suite suite) refl)
      (ap not (put_version q p y.0 found y.1 (get old q) refl)) in
      ap (λ o. option_map printed_item (option_and_then (λ y. cond (is_new (q, y)) (Some y) None) o)) y.1
      ∙ ap (λ b. option_map printed_item (cond b (Some y.0) None)) fresh ∙ ap Some y.2

  find_same : (q : ShelfKey) (o : Option Item) → find key_order q plan.put ≡ o → option_map printed_item (option_and_then (λ y. cond (is_new (q, y)) (Some y) None) (get new q)) ≡ o
  find_same q None h = not_put q h (get new q) refl
  find_same q (Some p) h = put_new q p h

  -- what is new is what the plan puts
  pub added-put : map (on_value key_order printed_item) added ≡ plan.put
  added-put =
      same_entries key_order key_order_total key_order-IsAntisymmetric (map (on_value key_order printed_item) added) plan.put
      (T_from_true _ (sorted_map key_order printed_item added ∙ true_from_T _ (sorted-filter key_order is_new (entries new) (entries_sorted new))))
      change.put_in_order
      (λ q. find_added q ∙ find_same q (find key_order q plan.put) refl)

  pub count-put : length added ≡ length plan.put
  count-put = sym (length-map added (on_value key_order printed_item)) ∙ ap length added-put
