-- A plan leaves the text of each index that lists nothing that it puts or drops.
use Rattle.std.proofs.Common.{◌≡◌, ◌≢◌, ℕ, Bool, true, false, cond, if◌then◌else◌, List, [], ◌∷◌, Option, Some, None, is_some, nat_eq, refl, sym, ap, ◌∙◌}
use Rattle.std.specs.Prelude.{filter}
use Rattle.std.specs.Cmp.{IsTotalOrder}
use Rattle.std.specs.FinMap.{FinMap, IsAntisymmetric, entries, find, get}
use Rattle.std.specs.List.{flat_map, list_any}
use Rattle.std.specs.declared.cmp.Ordering.{Ordering}
use Rattle.book.specs.Book.{shown_past, touches}
use Rattle.book.specs.Keeping.{AreSteps}
use Rattle.book.specs.Scan.{some_touches}
use Rattle.book.specs.declared.change.Step.{Step}
use Rattle.sums.proofs.Booleans.{neither}
use Rattle.sums.proofs.Members.{all_at, any_false, any_none}
use Rattle.suites.proofs.MapChanges.{get-with_all, get-without, or_else}
use Rattle.suites.specs.Change.{IsChange, without}
use Rattle.suites.specs.KeyLemmas.{key_order_total, key_order-IsAntisymmetric}
use Rattle.suites.specs.Plan.{IsStep, applied}
use Rattle.suites.specs.Shelves.{ShelvesValue}
use Rattle.suites.specs.declared.item.Item.{Item}
use Rattle.suites.specs.declared.key.ShelfKey.{ShelfKey}
use Rattle.suites.specs.declared.plan.Plan.{Plan}
use Rattle.suites.proofs.PassingEntries.{passing, passing_not, same_passing}
use Rattle.suites.proofs.FileMembers.{member_found}
use Rattle.indices.specs.Release.{is_source, listed_text}
use Rattle.indices.specs.Listed.{is_in_packages, is_in_sources}
use Rattle.indices.specs.Stanzas.{package_stanza, packages_text, source_stanza, sources_text}
use Rattle.renewing.specs.Renewal.{changes_index, is_listed, some_changes_index}
use Rattle.indices.specs.Places.{place_text}
use Rattle.indices.specs.declared.index.IndexPlace.{IndexPlace}

-- ---- the entries of a map that pass

-- a change whose entries don't pass
module _ {K X : Type 0} {R : K → K → Ordering} (total : IsTotalOrder R) (same : IsAntisymmetric R) (p : K × X → Bool) (old new : FinMap R X) (put dropped : List (K × X)) (change : IsChange old new put dropped) (no_put : list_any p put ≡ false) (no_dropped : list_any p dropped ≡ false) where
  dropped_passes : (q : K) (o : Option X) → find R q dropped ≡ o → passing total same p q (cond (is_some o) None (get old q)) ≡ passing total same p q (get old q)
  dropped_passes q None h = refl
  dropped_passes q (Some x) h =
      let listed = member_found same q x dropped h in
      let was = (all_at (λ e. (get old e.0 ≡ Some e.1) × (get new e.0 ≢ Some e.1)) dropped (q, x) change.gone listed).0 in
      sym (ap (passing total same p q) was ∙ passing_not total same p q x (any_false p dropped (q, x) no_dropped listed))

  put_passes : (q : K) (o : Option X) → find R q put ≡ o → passing total same p q (or_else o (cond (is_some (find R q dropped)) None (get old q))) ≡ passing total same p q (get old q)
  put_passes q None h = dropped_passes q (find R q dropped) refl
  put_passes q (Some x) h =
      let listed = member_found same q x put h in
      let absent : get (without old dropped) q ≡ None = all_at (λ e. get (without old dropped) e.0 ≡ None) put (q, x) change.absent listed in
      passing_not total same p q x (any_false p put (q, x) no_put listed)
      ∙ sym (ap (passing total same p q) (sym (get-without total old dropped q) ∙ absent))
      ∙ dropped_passes q (find R q dropped) refl

  pub unchanged : filter p (entries new) ≡ filter p (entries old)
  unchanged = same_passing total same p new old (λ q.
      ap (λ m. passing total same p q (get m q)) change.made
      ∙ ap (passing total same p q) (get-with_all total (without old dropped) put q change.put_in_order ∙ ap (or_else (find R q put)) (get-without total old dropped q))
      ∙ put_passes q (find R q put) refl)

-- ---- indices

-- the items that an index lists, and its text, by whether it is an index of sources
abbrev lists_by : Bool → ℕ → IndexPlace → ShelfKey × Item → Bool
lists_by b suite place e = if b then is_in_sources suite place.component e else is_in_packages suite place.component place.architecture e

abbrev text_by : Bool → ShelvesValue → ℕ → IndexPlace → List ℕ
text_by b shelves suite place = if b then sources_text shelves suite place.component else packages_text shelves suite place.component place.architecture

same_by : (b : Bool) (suite : ℕ) (place : IndexPlace) (old new : ShelvesValue) (put dropped : List (ShelfKey × Item)) → IsChange old new put dropped
    → list_any (lists_by b suite place) put ≡ false → list_any (lists_by b suite place) dropped ≡ false → text_by b new suite place ≡ text_by b old suite place
unfolding sources_text packages_text
same_by true suite place old new put dropped change p d =
    ap (flat_map (λ (a : ShelfKey × Item). source_stanza a.1)) (unchanged key_order_total key_order-IsAntisymmetric (is_in_sources suite place.component) old new put dropped change p d)
same_by false suite place old new put dropped change p d =
    ap (flat_map (λ (a : ShelfKey × Item). package_stanza a.1)) (unchanged key_order_total key_order-IsAntisymmetric (is_in_packages suite place.component place.architecture) old new put dropped change p d)

same_text : (suite : ℕ) (place : IndexPlace) (old new : ShelvesValue) (plan : Plan) → IsChange old new plan.put plan.dropped → changes_index suite place plan ≡ false
    → place_text new suite place ≡ place_text old suite place
unfolding changes_index is_listed listed_text
same_text suite place old new plan change h =
    let parts = neither (list_any (is_listed suite place) plan.put) (list_any (is_listed suite place) plan.dropped) h in
    same_by (is_source place.architecture) suite place old new plan.put plan.dropped change parts.0 parts.1

-- THE TEXT of an index that no step changes
pub same_past : (suite : ℕ) (place : IndexPlace) (shown : ShelvesValue) (steps : List Step) → AreSteps shown steps → some_changes_index suite place steps ≡ false
    → place_text (shown_past shown steps) suite place ≡ place_text shown suite place
same_past suite place shown [] sound h = refl
same_past suite place shown (step ∷ steps) sound h =
    let parts = neither (changes_index suite place step.plan) (some_changes_index suite place steps) h in
    let after = sound.0.0 in
    let is : IsStep shown after step.plan = sound.0.1 in
    same_past suite place (applied shown step.plan) steps sound.1 parts.1
    ∙ ap (λ (m : ShelvesValue). place_text m suite place) (sym is.items.made)
    ∙ same_text suite place shown after step.plan is.items parts.0

-- ---- suites

not_listed : (b : Bool) (suite : ℕ) (place : IndexPlace) (e : ShelfKey × Item) → nat_eq e.0.suite suite ≡ false → lists_by b suite place e ≡ false
unfolding is_in_sources is_in_packages
not_listed true suite place e h = rw h refl
not_listed false suite place e h = rw h refl

elsewhere : (suite : ℕ) (place : IndexPlace) (es : List (ShelfKey × Item)) → list_any (λ (e : ShelfKey × Item). nat_eq e.0.suite suite) es ≡ false → list_any (is_listed suite place) es ≡ false
unfolding is_listed
elsewhere suite place es none = any_none (is_listed suite place) es (λ e listed. not_listed (is_source place.architecture) suite place e (any_false (λ (e : ShelfKey × Item). nat_eq e.0.suite suite) es e none listed))

one_elsewhere : (suite : ℕ) (place : IndexPlace) (plan : Plan) → touches suite plan ≡ false → changes_index suite place plan ≡ false
unfolding touches changes_index
one_elsewhere suite place plan h =
    let parts = neither (list_any (λ (e : ShelfKey × Item). nat_eq e.0.suite suite) plan.put) (list_any (λ (e : ShelfKey × Item). nat_eq e.0.suite suite) plan.dropped) h in
    rw (elsewhere suite place plan.put parts.0, elsewhere suite place plan.dropped parts.1) refl

-- steps that touch no item of a suite change none of its indices
pub untouched_index : (suite : ℕ) (place : IndexPlace) (steps : List Step) → some_touches suite steps ≡ false → some_changes_index suite place steps ≡ false
untouched_index suite place [] h = refl
untouched_index suite place (step ∷ steps) h =
    let parts = neither (touches suite step.plan) (some_touches suite steps) h in
    rw (one_elsewhere suite place step.plan parts.0, untouched_index suite place steps parts.1) refl
