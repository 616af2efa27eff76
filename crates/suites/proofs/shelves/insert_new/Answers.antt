use Rattle.std.proofs.Common.{◌≡◌, List, ◌∷◌, map, refl, sym, ap, ◌∙◌}
use Rattle.std.specs.FinMap.{FinMap, get, from_entries}
use Rattle.std.specs.List.{list_any}
use Rattle.std.specs.Ordering.{eq_by_cmp}
use Rattle.std.proofs.lemmas.List.{nil_from_length}
use Rattle.suites.specs.Change.{with_all}
use Rattle.suites.specs.Keys.{key_order}
use Rattle.suites.specs.KeyLemmas.{key_order_total, key_order-IsAntisymmetric}
use Rattle.suites.specs.declared.item.Item.{Item}
use Rattle.suites.specs.declared.key.ShelfKey.{ShelfKey}
use Rattle.suites.proofs.ItemChanges.{others_more, taken_back}
use Rattle.suites.proofs.Failures.{on_failure, on_success}
use Rattle.suites.proofs.shelves.insert_new.Goals as goal

pub loop-key-init : goal.loop-key-init
loop-key-init c =
    let given = c.into_iter-key-iterator.ensures.into_iter_gives.0 in
    record {
      so_far = ap (with_all (from_entries {R = key_order} c.args.items.now.entries)) given;
      others = λ q no. (refl, ap (λ es. list_any (eq_by_cmp key_order q) (map (λ e. e.0) es)) given ∙ ap (list_any (eq_by_cmp key_order q)) (sym c.requires.keys) ∙ no);
      ordered = c.requires.ordered;
    }

pub loop-key-preserved : goal.loop-key-preserved
unfolding with_all
loop-key-preserved c =
    let before : FinMap key_order Item = from_entries {R = key_order} c.loop-key.items.entries in
    let rest : List (ShelfKey × Item) = c.next.new.self.rest.items in
    let steps : c.loop-key.key-iterator.rest.items ≡ (c.in-Some.key, c.in-Some.item) ∷ rest = c.in-Some.ensures.steps.0 in
    let made = on_success c.insert_item.result (sym c.is_err.ensures.value ∙ c.if-is_err.false) c.insert_item.ensures.ok in
    record {
      so_far = ap (λ m. with_all m rest) made ∙ ap (with_all before) (sym steps) ∙ c.loop-key.invariant.so_far;
      others = λ q no.
          let h = c.loop-key.invariant.others q no in
          others_more key_order_total (from_entries c.args.items.now.entries) before (from_entries c.insert_item.new.items.entries) c.in-Some.key c.in-Some.item (map (λ e. e.0) rest) q made
          (h.0, ap (λ es. list_any (eq_by_cmp key_order q) (map (λ e. e.0) es)) (sym steps) ∙ h.1);
      ordered = c.insert_item.ensures.ordered;
    }

pub returns-then-is_err-clause-err : goal.returns-then-is_err-clause-err
returns-then-is_err-clause-err c =
    taken_back key_order_total key_order-IsAntisymmetric (from_entries c.args.items.now.entries) (from_entries c.insert_item.new.items.entries) (from_entries c.remove_items.new.items.entries)
    c.args.new.items c.args.keys.now c.requires.keys c.requires.absent c.remove_items.ensures.removed
    (λ q no. ap (λ m. get m q) (on_failure c.insert_item.result (sym c.is_err.ensures.value ∙ c.if-is_err.true) c.insert_item.ensures.err) ∙ (c.loop-key.invariant.others q no).0)

pub returns-clause-ok : goal.returns-clause-ok
unfolding with_all
returns-clause-ok c =
    ap (with_all (from_entries {R = key_order} c.loop-key.items.entries)) (sym (nil_from_length c.loop-key.key-iterator.rest.items (sym c.loop-key.key-iterator.rest.ok.0 ∙ c.in-None.ensures.steps.0)))
    ∙ c.loop-key.invariant.so_far
