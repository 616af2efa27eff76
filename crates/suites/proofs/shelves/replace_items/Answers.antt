use Rattle.std.proofs.Common.{◌≡◌, true, List, ◌∷◌, sym, ap, subst, ◌∙◌}
use Rattle.std.specs.Prelude.{All}
use Rattle.std.specs.FinMap.{FinMap, get, contains_key, from_entries}
use Rattle.std.proofs.lemmas.List.Elements.{All-head, All-tail}
use Rattle.std.proofs.lemmas.List.{nil_from_length}
use Rattle.suites.specs.Change.{with_all}
use Rattle.suites.specs.Keys.{key_order}
use Rattle.suites.specs.KeyLemmas.{key_order_total}
use Rattle.suites.specs.declared.item.Item.{Item}
use Rattle.suites.specs.declared.key.ShelfKey.{ShelfKey}
use Rattle.suites.proofs.ItemChanges.{must_succeed, still_there}
use Rattle.suites.proofs.shelves.replace_items.Goals as goal

pub loop-key-init : goal.loop-key-init
loop-key-init c =
    let given = c.into_iter-key-iterator.ensures.into_iter_gives.0 in
    record {
      so_far = ap (with_all (from_entries {R = key_order} c.args.items.now.entries)) given;
      present = subst (All (λ e. contains_key (from_entries {R = key_order} c.args.items.now.entries) e.0 ≡ true)) (sym given) c.requires.present;
      ordered = c.requires.ordered;
    }

pub loop-key-preserved : goal.loop-key-preserved
unfolding with_all
loop-key-preserved c =
    let before : FinMap key_order Item = from_entries {R = key_order} c.loop-key.items.entries in
    let rest : List (ShelfKey × Item) = c.next.new.self.rest.items in
    let steps : c.loop-key.key-iterator.rest.items ≡ (c.in-Some.key, c.in-Some.item) ∷ rest = c.in-Some.ensures.steps.0 in
    let here : All (λ e. contains_key before e.0 ≡ true) ((c.in-Some.key, c.in-Some.item) ∷ rest) =
    subst (All (λ e. contains_key before e.0 ≡ true)) steps c.loop-key.invariant.present in
    let made = must_succeed c.insert_item.result (get before c.in-Some.key)
    (All-head (λ (e : ShelfKey × Item). contains_key before e.0 ≡ true) (c.in-Some.key, c.in-Some.item) rest here)
    c.insert_item.ensures.absent c.insert_item.ensures.ok in
    record {
      so_far = ap (λ m. with_all m rest) made ∙ ap (with_all before) (sym steps) ∙ c.loop-key.invariant.so_far;
      present = still_there key_order_total before (from_entries c.insert_item.new.items.entries) c.in-Some.key c.in-Some.item rest made
          (All-tail (λ (e : ShelfKey × Item). contains_key before e.0 ≡ true) (c.in-Some.key, c.in-Some.item) rest here);
      ordered = c.insert_item.ensures.ordered;
    }

pub returns-clause-replaced : goal.returns-clause-replaced
unfolding with_all
returns-clause-replaced c =
    ap (with_all (from_entries {R = key_order} c.loop-key.items.entries)) (sym (nil_from_length c.loop-key.key-iterator.rest.items (sym c.loop-key.key-iterator.rest.ok.0 ∙ c.in-None.ensures.steps.0)))
    ∙ c.loop-key.invariant.so_far
