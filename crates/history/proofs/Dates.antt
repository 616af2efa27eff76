-- The dates of suites: what a suite shows changes if a plan touches it.
use Rattle.std.proofs.Common.{◌≡◌, ◌≢◌, ◌⊎◌, ℕ, Bool, true, false, cond, not, ◌&&◌, ◌||◌, List, [], ◌∷◌, ◌++◌, map, Option, Some, None, option_map, is_some, nat_eq, refl, sym, ap, ◌∙◌, subst, inl, inr, append_assoc, append-nil}
use Rattle.std.specs.Prelude.{Contains}
use Rattle.std.specs.Cmp.{IsTotalOrder, tied_itself, eq_by_cmp_equiv}
use Rattle.std.specs.FinMap.{FinMap, IsAntisymmetric, entries, get, insert, remove, get-insert, get-remove}
use Rattle.std.specs.List.{enumerate_from, list_any}
use Rattle.std.specs.Option.{option_map_or}
use Rattle.std.specs.Ordering.{eq_by_cmp, is_lt}
use Rattle.std.specs.Str.{bytes_eq}
use Rattle.std.specs.declared.cmp.Ordering.{Ordering}
use Rattle.std.specs.declared.cmp.Ordering.TheVariants.{Equal}
use mathlib.Core.Path.{fun_ext}
use Rattle.std.proofs.lemmas.Bool.Decides.{Decides-eqb}
use Rattle.std.proofs.lemmas.Option.{same_Some}
use Rattle.std.proofs.lemmas.Slice.Eq.{bytes_eq-Decides}
use Rattle.book.specs.Book.{dates_after, touches}
use Rattle.sums.proofs.Booleans.{neither}
use Rattle.sums.proofs.Members.{which, no_member, any_true, any_false, any_none, any_some, all_at}
use Rattle.suites.specs.Change.{IsChange, with_all, without}
use Rattle.suites.proofs.HeldLemmas.{by_pushes}
use Rattle.std.proofs.lemmas.Bool.{or_left, or_cases}
use Rattle.suites.specs.KeyLemmas.{key_order_total, key_order-IsAntisymmetric}
use Rattle.suites.specs.Keys.{key_order}
use Rattle.suites.specs.Shelves.{ShelvesValue, ShelvesWith, is_above, is_at_least, is_covered, shown}
use Rattle.suites.proofs.ShownLemmas.{not_at_least, shown-push, is_less}
use Rattle.suites.specs.declared.item.Item.{Item}
use Rattle.suites.specs.declared.key.ShelfKey.{ShelfKey}
use Rattle.suites.specs.declared.plan.Plan.{Plan}
use Rattle.suites.proofs.FileMembers.{get_member, member_get}
use Rattle.suites.proofs.EntryLemmas.{same_keys}
use Rattle.vers.proofs.Laws.{version_cmp_total}
use Rattle.vers.specs.Order.{version_cmp}
use Rattle.history.specs.Archives.{BodyItem, has_more, is_changed, version_with}
use Rattle.history.proofs.ShownPrints.{printed_item}

-- ---- versions

above-trans : (u v w : List ℕ) → is_above u v ≡ true → is_above v w ≡ true → is_above u w ≡ true
unfolding is_above
above-trans u v w p q = ap is_lt (version_cmp_total.trans w v u (is_less (version_cmp w v) q) (is_less (version_cmp v u) p))

-- a greater version has another text
pub above-other : (v w : List ℕ) → is_above v w ≡ true → bytes_eq w v ≡ false
unfolding is_above
above-other v w h = by_case (bytes_eq w v) refl
  where
    by_case : (b : Bool) → bytes_eq w v ≡ b → b ≡ false
    by_case true e =
        let same : w ≡ v = (bytes_eq-Decides w v).0 e in
        let tied : version_cmp w v ≡ Equal = ap (λ x. version_cmp x v) same ∙ tied_itself version_cmp_total v in
        cc (sym h ∙ ap is_lt tied)
    by_case false e = refl

-- ---- shelves keep an item, or take a greater version

module _ {X : Type 0} (version : X → List ℕ) where
  -- the item, or one of a greater version
  abbrev pub IsHeir : X → X → Type 0
  IsHeir x y = (y ≡ x) ⊎ (is_above (version y) (version x) ≡ true)

  -- if the first shelves have an item, the second have it or one of a greater version
  abbrev pub Grows : ShelvesWith X → ShelvesWith X → Type 0
  Grows old new = (q : ShelfKey) (x : X) → get old q ≡ Some x → (y : X) × (get new q ≡ Some y) × IsHeir x y

  heir_of_heir : (x y z : X) → IsHeir x y → IsHeir y z → IsHeir x z
  heir_of_heir x y z (inl p) (inl q) = inl (q ∙ p)
  heir_of_heir x y z (inl p) (inr q) = inr (ap (λ v. is_above (version z) (version v)) (sym p) ∙ q)
  heir_of_heir x y z (inr p) (inl q) = inr (ap (λ v. is_above (version v) (version x)) q ∙ p)
  heir_of_heir x y z (inr p) (inr q) = inr (above-trans (version z) (version y) (version x) q p)

  grows_more : (a b c : ShelvesWith X) → Grows a b → Grows b c → Grows a c
  grows_more a b c f g q x h =
      let first = f q x h in
      let second = g q first.0 first.1 in
      (second.0, second.1, heir_of_heir x first.0 second.0 first.2 second.2)

  inserted : (m : ShelvesWith X) (a : ShelfKey × X) (q : ShelfKey) (x : X) → get m q ≡ Some x → is_covered version m a ≡ false
      → (b : Bool) → eq_by_cmp key_order q a.0 ≡ b → (y : X) × (cond b (Some a.1) (get m q) ≡ Some y) × IsHeir x y
  inserted m a q x h uncovered true tied =
      let there : get m a.0 ≡ Some x = ap (get m) (sym (same_keys key_order-IsAntisymmetric q a.0 tied)) ∙ h in
      let less : is_at_least (version x) (version a.1) ≡ false = sym (ap (λ o. option_map_or (λ x. is_at_least (version x) (version a.1)) o false) there) ∙ uncovered in
      (a.1, refl, inr (not_at_least (version x) (version a.1) less))
  inserted m a q x h uncovered false apart = (x, h, inl refl)

  grows_admitted : (m : ShelvesWith X) (a : ShelfKey × X) (b : Bool) → is_covered version m a ≡ b → Grows m (cond b m (insert m a.0 a.1))
  grows_admitted m a true covered q x h = (x, h, inl refl)
  grows_admitted m a false uncovered q x h =
      let put = inserted m a q x h uncovered (eq_by_cmp key_order q a.0) refl in
      (put.0, get-insert key_order_total m a.0 a.1 q ∙ put.1, put.2)

  -- what is shown grows as items are admitted
  pub shown_grows : (xs ys : List (ShelfKey × X)) → Grows (shown version xs) (shown version (xs ++ ys))
  shown_grows xs ys =
      by_pushes (λ done. Grows (shown version xs) (shown version (xs ++ done)))
      (λ done a grown. grows_more (shown version xs) (shown version (xs ++ done)) (shown version (xs ++ (done ++ a ∷ []))) grown
      (subst (λ m. Grows (shown version (xs ++ done)) m)
      (sym (shown-push version (xs ++ done) a) ∙ ap (shown version) (append_assoc xs done (a ∷ [])))
      (grows_admitted (shown version (xs ++ done)) a (is_covered version (shown version (xs ++ done)) a) refl)))
      [] ys
      (subst (λ zs. Grows (shown version xs) (shown version zs)) (sym (append-nil xs)) (λ q x h. (x, h, inl refl)))

-- ---- changes of maps

module _ {K X : Type 0} {R : K → K → Ordering} (total : IsTotalOrder R) (same : IsAntisymmetric R) where
  pub with_all_apart : (m : FinMap R X) (es : List (K × X)) (q : K) → list_any (λ e. eq_by_cmp R q e.0) es ≡ false → get (with_all m es) q ≡ get m q
  unfolding with_all
  with_all_apart m [] q h = refl
  with_all_apart m (e ∷ es) q h =
      let parts = neither (eq_by_cmp R q e.0) (list_any (λ (e : K × X). eq_by_cmp R q e.0) es) h in
      with_all_apart (insert m e.0 e.1) es q parts.1
      ∙ get-insert total m e.0 e.1 q ∙ ap (λ b. cond b (Some e.1) (get m q)) parts.0

  pub without_apart : (m : FinMap R X) (es : List (K × X)) (q : K) → list_any (λ e. eq_by_cmp R q e.0) es ≡ false → get (without m es) q ≡ get m q
  unfolding without
  without_apart m [] q h = refl
  without_apart m (e ∷ es) q h =
      let parts = neither (eq_by_cmp R q e.0) (list_any (λ (e : K × X). eq_by_cmp R q e.0) es) h in
      without_apart (remove m e.0) es q parts.1
      ∙ get-remove total m e.0 q ∙ ap (λ b. cond b None (get m q)) parts.0

  -- a key that is there no more is one of those taken out
  pub taken_out : (m : FinMap R X) (es : List (K × X)) (q : K) (x : X) → get m q ≡ Some x → get (without m es) q ≡ None → (e : K × X) × Contains es e × (q ≡ e.0)
  taken_out m es q x h gone = by_case (list_any (λ (e : K × X). eq_by_cmp R q e.0) es) refl
    where
      by_case : (b : Bool) → list_any (λ (e : K × X). eq_by_cmp R q e.0) es ≡ b → (e : K × X) × Contains es e × (q ≡ e.0)
      by_case true some =
          let e = any_some (λ (e : K × X). eq_by_cmp R q e.0) es some in
          (e.0, e.1, same_keys same q (e.0).0 e.2)
      by_case false none = cc (sym h ∙ sym (without_apart m es q none) ∙ gone)

  kept_there : (m : FinMap R X) (es : List (K × X)) (q : K) → is_some (get m q) ≡ true → is_some (get (with_all m es) q) ≡ true
  unfolding with_all
  kept_there m [] q h = h
  kept_there m (e ∷ es) q h =
      kept_there (insert m e.0 e.1) es q (ap is_some (get-insert total m e.0 e.1 q) ∙ either (eq_by_cmp R q e.0))
    where
      either : (b : Bool) → is_some (cond b (Some e.1) (get m q)) ≡ true
      either true = refl
      either false = h

  -- a key that is put in is there
  pub put_there : (m : FinMap R X) (es : List (K × X)) (e : K × X) → Contains es e → is_some (get (with_all m es) e.0) ≡ true
  unfolding with_all
  put_there m [] e at = no_member e at
  put_there m (f ∷ fs) e at = elim (which f e fs at) [
    | inl is ↦ kept_there (insert m f.0 f.1) fs e.0
        (ap is_some (get-insert total m f.0 f.1 e.0)
        ∙ ap (λ b. is_some (cond b (Some f.1) (get m e.0))) (ap (λ k. eq_by_cmp R e.0 k) (ap (λ (x : K × X). x.0) is) ∙ (eq_by_cmp_equiv total).refl e.0))
    | inr rest ↦ put_there (insert m f.0 f.1) fs e rest
  ]

-- ---- what a suite shows

-- the item there has the version
abbrev pub has_version : Option BodyItem → BodyItem → Bool
has_version o y = option_map_or (λ x. bytes_eq x.version y.version) o false

more_at : (suite : ℕ) (old new : ShelvesWith BodyItem) (q : ShelfKey) (y : BodyItem) → get new q ≡ Some y → q.suite ≡ suite → has_version (get old q) y ≡ false → has_more suite old new ≡ true
unfolding has_more
more_at suite old new q y h at other =
    any_true (λ (e : ShelfKey × BodyItem). nat_eq e.0.suite suite && not (has_version (get old e.0) e.1)) (entries new) (q, y)
    (get_member key_order-IsAntisymmetric new q y h)
    (let at_suite : nat_eq q.suite suite ≡ true = (Decides-eqb q.suite suite).1 at in rw (at_suite, other) refl)

pub no_more : (suite : ℕ) (old new : ShelvesWith BodyItem) → ((q : ShelfKey) (y : BodyItem) → get new q ≡ Some y → q.suite ≡ suite → has_version (get old q) y ≡ true) → has_more suite old new ≡ false
unfolding has_more
no_more suite old new h =
    any_none (λ (e : ShelfKey × BodyItem). nat_eq e.0.suite suite && not (has_version (get old e.0) e.1)) (entries new)
    (λ e at. by_case e (member_get key_order_total new e at) (nat_eq e.0.suite suite) refl)
  where
    by_case : (e : ShelfKey × BodyItem) → get new e.0 ≡ Some e.1 → (b : Bool) → nat_eq e.0.suite suite ≡ b → (b && not (has_version (get old e.0) e.1)) ≡ false
    by_case e found true at = ap not (h e.0 e.1 found ((Decides-eqb e.0.suite suite).0 at))
    by_case e found false at = refl

-- the second shelves are the first by prints
abbrev pub ArePrinted : ShelvesWith BodyItem → ShelvesValue → Type 0
ArePrinted shelves prints = (q : ShelfKey) → get prints q ≡ option_map printed_item (get shelves q)

pub same_version : (o : Option BodyItem) (y : BodyItem) → option_map printed_item o ≡ Some (printed_item y) → has_version o y ≡ true
same_version None y h = cc
same_version (Some x) y h = (bytes_eq-Decides x.version y.version).1 (ap (λ (i : Item). i.version) (same_Some (printed_item x) (printed_item y) h))

pub some_printed : (o : Option BodyItem) (i : Item) → option_map printed_item o ≡ Some i → (x : BodyItem) × (o ≡ Some x) × (printed_item x ≡ i)
some_printed None i h = cc
some_printed (Some x) i h = (x, refl, same_Some (printed_item x) i h)

one_there : (o : Option BodyItem) → is_some (option_map printed_item o) ≡ true → (x : BodyItem) × (o ≡ Some x)
one_there None h = cc
one_there (Some x) h = (x, refl)

module _ (suite : ℕ) (old new : ShelvesWith BodyItem) (before after : ShelvesValue) (plan : Plan) (was : ArePrinted old before) (is : ArePrinted new after)
    (grown : Grows version_with old new) (change : IsChange before after plan.put plan.dropped) where
  -- a shelf of the suite that loses its item
  replaced : (q : ShelfKey) (x : BodyItem) → q.suite ≡ suite → get old q ≡ Some x → get after q ≢ Some (printed_item x) → has_more suite old new ≡ true
  replaced q x at h lost =
      let heir = grown q x h in
      by_case heir.0 heir.1 heir.2
    where
      by_case : (y : BodyItem) → get new q ≡ Some y → IsHeir version_with x y → has_more suite old new ≡ true
      by_case y now (inl same) = absurd (lost (is q ∙ ap (option_map printed_item) (now ∙ ap Some same)))
      by_case y now (inr above) = more_at suite old new q y now at (ap (λ o. has_version o y) h ∙ above-other y.version x.version above)

  dropped_changes : (e : ShelfKey × Item) → Contains plan.dropped e → e.0.suite ≡ suite → has_more suite old new ≡ true
  dropped_changes e at at_suite =
      let gone = all_at (λ (e : ShelfKey × Item). (get before e.0 ≡ Some e.1) × (get after e.0 ≢ Some e.1)) plan.dropped e change.gone at in
      let x = some_printed (get old e.0) e.1 (sym (was e.0) ∙ gone.0) in
      replaced e.0 x.0 at_suite x.1 (λ h. gone.1 (h ∙ ap Some x.2))

  put_replaces : (e : ShelfKey × Item) → Contains plan.put e → e.0.suite ≡ suite → (x : BodyItem) → get old e.0 ≡ Some x → has_more suite old new ≡ true
  put_replaces e at at_suite x h =
      let absent : get (without before plan.dropped) e.0 ≡ None = all_at (λ (e : ShelfKey × Item). get (without before plan.dropped) e.0 ≡ None) plan.put e change.absent at in
      let d = taken_out key_order_total key_order-IsAntisymmetric before plan.dropped e.0 (printed_item x) (was e.0 ∙ ap (option_map printed_item) h) absent in
      dropped_changes d.0 d.1 (ap (λ (k : ShelfKey). k.suite) (sym d.2) ∙ at_suite)

  put_changes : (e : ShelfKey × Item) → Contains plan.put e → e.0.suite ≡ suite → (o : Option BodyItem) → get old e.0 ≡ o → has_more suite old new ≡ true
  put_changes e at at_suite None h =
      let tat_suite : is_some (get after e.0) ≡ true = ap (λ (m : ShelvesValue). is_some (get m e.0)) change.made ∙ put_there key_order_total key_order-IsAntisymmetric (without before plan.dropped) plan.put e at in
      let y = one_there (get new e.0) (ap is_some (sym (is e.0)) ∙ tat_suite) in
      more_at suite old new e.0 y.0 y.1 at_suite (ap (λ o. has_version o y.0) h)
  put_changes e at at_suite (Some x) h = put_replaces e at at_suite x h

  -- a shelf of a suite that the plan does not touch
  untouched : (q : ShelfKey) → q.suite ≡ suite → touches suite plan ≡ false → get after q ≡ get before q
  unfolding touches
  untouched q at h =
      let parts = neither (list_any (λ (e : ShelfKey × Item). nat_eq e.0.suite suite) plan.put) (list_any (λ (e : ShelfKey × Item). nat_eq e.0.suite suite) plan.dropped) h in
      ap (λ (m : ShelvesValue). get m q) change.made
      ∙ with_all_apart key_order_total key_order-IsAntisymmetric (without before plan.dropped) plan.put q (elsewhere plan.put parts.0)
      ∙ without_apart key_order_total key_order-IsAntisymmetric before plan.dropped q (elsewhere plan.dropped parts.1)
    where
      elsewhere : (es : List (ShelfKey × Item)) → list_any (λ (e : ShelfKey × Item). nat_eq e.0.suite suite) es ≡ false → list_any (λ (e : ShelfKey × Item). eq_by_cmp key_order q e.0) es ≡ false
      elsewhere es none = any_none (λ (e : ShelfKey × Item). eq_by_cmp key_order q e.0) es (λ e listed. by_case e listed (eq_by_cmp key_order q e.0) refl)
        where
          by_case : (e : ShelfKey × Item) → Contains es e → (b : Bool) → eq_by_cmp key_order q e.0 ≡ b → b ≡ false
          by_case e listed true tied =
              let same : e.0.suite ≡ suite = sym (ap (λ (k : ShelfKey). k.suite) (same_keys key_order-IsAntisymmetric q e.0 tied)) ∙ at in
              cc (sym ((Decides-eqb e.0.suite suite).1 same) ∙ any_false (λ (e : ShelfKey × Item). nat_eq e.0.suite suite) es e none listed)
          by_case e listed false apart = refl

  touched_changes : touches suite plan ≡ true → has_more suite old new ≡ true
  unfolding touches
  touched_changes h = elim (or_cases (list_any (λ (e : ShelfKey × Item). nat_eq e.0.suite suite) plan.put) (list_any (λ (e : ShelfKey × Item). nat_eq e.0.suite suite) plan.dropped) h) [
    | inl put ↦
        let e = any_some (λ (e : ShelfKey × Item). nat_eq e.0.suite suite) plan.put put in
        put_changes e.0 e.1 ((Decides-eqb (e.0).0.suite suite).0 e.2) (get old (e.0).0) refl
    | inr dropped ↦
        let e = any_some (λ (e : ShelfKey × Item). nat_eq e.0.suite suite) plan.dropped dropped in
        dropped_changes e.0 e.1 ((Decides-eqb (e.0).0.suite suite).0 e.2)
  ]

  -- THE SUITE shows something else exactly if the plan touches it.
  pub changed-touches : is_changed suite old new ≡ touches suite plan
  unfolding is_changed
  changed-touches = by_case (touches suite plan) refl
    where
      by_case : (b : Bool) → touches suite plan ≡ b → (has_more suite old new || has_more suite new old) ≡ b
      by_case true h = or_left (has_more suite old new) (has_more suite new old) (touched_changes h)
      by_case false h =
          let forth : has_more suite old new ≡ false = no_more suite old new (λ q y now at. same_version (get old q) y (sym (was q) ∙ sym (untouched q at h) ∙ is q ∙ ap (option_map printed_item) now)) in
          let back : has_more suite new old ≡ false = no_more suite new old (λ q y now at. same_version (get new q) y (sym (is q) ∙ untouched q at h ∙ was q ∙ ap (option_map printed_item) now)) in
          rw (forth, back) refl

-- the dates of all suites
pub dates-after : (moment : ℕ) (dates : List ℕ) (old new : ShelvesWith BodyItem) (before after : ShelvesValue) (plan : Plan) → ArePrinted old before → ArePrinted new after
    → Grows version_with old new → IsChange before after plan.put plan.dropped
    → map (λ d. cond (is_changed d.0 old new) moment d.1) (enumerate_from 0 dates) ≡ dates_after moment dates plan
unfolding dates_after
dates-after moment dates old new before after plan was is grown change =
    ap (λ (test : ℕ → Bool). map (λ (d : ℕ × ℕ). cond (test d.0) moment d.1) (enumerate_from 0 dates))
    (fun_ext (λ suite. changed-touches suite old new before after plan was is grown change))
