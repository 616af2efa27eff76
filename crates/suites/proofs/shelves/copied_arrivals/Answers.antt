use Rattle.std.proofs.Common.{◌≡◌, not, List, [], ◌∷◌, ◌++◌, map, sym, ap, ◌∙◌, Vec, Global}
use Rattle.std.proofs.lemmas.List.{map-append}
use Rattle.std.specs.FinMap.{from_entries, contains_key}
use Rattle.std.specs.Prelude.{is_some}
use Rattle.suites.specs.Applying.{is_new, is_replacing}
use Rattle.suites.specs.Keys.{key_order}
use Rattle.suites.specs.KeyLemmas.{key_order_total}
use Rattle.suites.specs.Shelves.{ShelvesValue}
use Rattle.suites.specs.declared.item.Item.{Item}
use Rattle.suites.specs.declared.key.ShelfKey.{ShelfKey}
use Rattle.suites.proofs.ItemChanges.{kept_more, left_more}
use Rattle.suites.proofs.MapLemmas.{get-view}
use Rattle.suites.proofs.shelves.copied_arrivals.Goals as goal
use Rattle.suites.proofs.shelves.copied_arrivals.Goals.{then-contains_key+in_ok-push, else-contains_key+in_ok-try_clone+in_ok-push-2+in_ok-push-3}

items_of : Vec (ShelfKey × Item) Global → List (ShelfKey × Item)
items_of v = v.items

pub loop-key-preserved : goal.loop-key-preserved
unfolding items_of
loop-key-preserved c =
    let i = c.loop-key.key-index in
    let e : ShelfKey × Item = c.loop-key-item.result in
    let put = c.args.put.now in
    let shelves : ShelvesValue = from_entries {R = key_order} c.args.items.now.entries in
    let shown : c.contains_key.result ≡ contains_key shelves e.0 = c.contains_key.ensures ∙ ap is_some (sym (get-view key_order_total c.args.items.now e.0)) in
    let copy : ◌≡◌ {A = ShelfKey × Item} c.in_ok-copy.copy e = c.in_ok-copy.ensures in
    elim c.if-contains_key.branch [
      | then-contains_key+in_ok-push w ↦ record {
        new = ap items_of w.new-is ∙ c.loop-key.invariant.new
            ∙ left_more (is_new shelves) put i e c.loop-key-test.true c.loop-key-item.is (ap not (sym shown ∙ w.if-contains_key.true));
        keys = ap (λ (v : Vec ShelfKey Global). v.items) w.new_keys-is ∙ c.loop-key.invariant.keys ∙ ap (map (λ e. e.0)) (sym (ap items_of w.new-is));
        replacing = ap items_of w.replacing-is ∙ w.in_ok-push.ensures.items
            ∙ (λ j. c.loop-key.invariant.replacing j ++ copy j ∷ [])
            ∙ kept_more (is_replacing shelves) put i e c.loop-key-test.true c.loop-key-item.is (sym shown ∙ w.if-contains_key.true);
      }
      | else-contains_key+in_ok-try_clone+in_ok-push-2+in_ok-push-3 w ↦ record {
        new = ap items_of w.new-is ∙ w.in_ok-push-3.ensures.items
            ∙ (λ j. c.loop-key.invariant.new j ++ copy j ∷ [])
            ∙ kept_more (is_new shelves) put i e c.loop-key-test.true c.loop-key-item.is (ap not (sym shown ∙ w.if-contains_key.false));
        keys = ap (λ (v : Vec ShelfKey Global). v.items) w.new_keys-is ∙ w.in_ok-push-2.ensures.items
            ∙ (λ j. c.loop-key.invariant.keys j ++ ((w.in_ok-try_clone.ensures ∙ sym (ap (λ (p : ShelfKey × Item). p.0) copy)) j) ∷ [])
            ∙ sym (ap (map (λ e. e.0)) (ap items_of w.new-is ∙ w.in_ok-push-3.ensures.items) ∙ map-append (λ e. e.0) c.loop-key.new.items (c.in_ok-copy.copy ∷ []));
        replacing = ap items_of w.replacing-is ∙ c.loop-key.invariant.replacing
            ∙ left_more (is_replacing shelves) put i e c.loop-key-test.true c.loop-key-item.is (sym shown ∙ w.if-contains_key.false);
      }
    ]
