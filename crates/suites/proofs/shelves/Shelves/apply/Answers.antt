use Rattle.std.proofs.Common.{◌≡◌, ◌<◌, true, None, fold, sym, ap, subst, ◌∙◌}
use Rattle.std.specs.Prelude.{All, IfSome}
use Rattle.std.specs.FinMap.{from_entries, get, contains_key, values}
use Rattle.suites.specs.Applying.{with_reference, without_reference, with_print}
use Rattle.suites.specs.Counts.{shared_at}
use Rattle.suites.specs.Keys.{key_order}
use Rattle.suites.specs.KeyLemmas.{key_order_total, key_order-IsAntisymmetric}
use Rattle.suites.specs.Plan.{applied}
use Rattle.suites.specs.Pool.{files_of}
use Rattle.suites.specs.Shelves.{ShelvesValue, AreSound}
use Rattle.suites.specs.declared.item.Item.{Item}
use Rattle.suites.specs.declared.key.ShelfKey.{ShelfKey}
use Rattle.suites.proofs.Counted.{counted_step}
use Rattle.suites.proofs.Failures.{on_failure, on_success}
use Rattle.suites.proofs.ItemChanges.{all_changed, new_absent, replacing_there}
use Rattle.suites.proofs.ReferenceLemmas.{shared_positive, undone}
use Rattle.suites.proofs.shelves.Shelves.apply.Goals as goal

pub add_references-requires : goal.add_references-requires
add_references-requires c = λ path.
    subst (λ o. IfSome o (λ f. 0 < f.references)) (sym (c.self.invariant.2 path)) (shared_positive path (files_of (values (from_entries {R = key_order} c.self.inside.items.entries))))

pub invariant_of-self : goal.invariant_of-self
invariant_of-self c = (c.self.invariant.0, c.self.invariant.1, λ path. c.in_err-add_references.ensures.err path ∙ c.self.invariant.2 path)

pub insert_new-requires-clause-absent : goal.insert_new-requires-clause-absent
insert_new-requires-clause-absent c =
    subst (All (λ (e : ShelfKey × Item). get (from_entries {R = key_order} c.self.inside.items.entries) e.0 ≡ None)) (sym c.in_ok-new_keys.ensures.new)
    (new_absent key_order_total (from_entries c.self.inside.items.entries) c.as_slice.result.now)

pub invariant_of-self-then-is_err : goal.invariant_of-self-then-is_err
invariant_of-self-then-is_err c =
    let same = on_failure c.insert_new.result (sym c.is_err.ensures.value ∙ c.if-is_err.true) c.insert_new.ensures.err in
    let put = c.args.plan.now.references_put in (
      subst AreSound (sym same) c.self.invariant.0,
      c.insert_new.ensures.ordered,
      λ path.
          let start = shared_at path (files_of (values (from_entries {R = key_order} c.self.inside.items.entries))) in
          c.drop_references.ensures path
          ∙ ap (λ o. fold (without_reference path) o c.as_slice-then-is_err.result.now) (c.in_ok-add_references.ensures.ok path)
          ∙ (λ i. fold (without_reference path) (fold (with_reference path) (c.self.invariant.2 path i) (c.as_slice-2.ensures i)) (c.as_slice-then-is_err.ensures i))
          ∙ undone path start put (shared_positive path (files_of (values (from_entries {R = key_order} c.self.inside.items.entries))))
          ∙ ap (λ v. shared_at path (files_of (values v))) (sym same),
    )

pub replace_items-requires-clause-present : goal.replace_items-requires-clause-present
replace_items-requires-clause-present c =
    let made = on_success c.insert_new.result (sym c.is_err.ensures.value ∙ c.if-is_err.false) c.insert_new.ensures.ok in
    subst (All (λ (e : ShelfKey × Item). contains_key (from_entries {R = key_order} c.insert_new.new.items.entries) e.0 ≡ true)) (sym c.in_ok-new_keys.ensures.replacing)
    (replacing_there key_order_total (from_entries c.self.inside.items.entries) (from_entries c.insert_new.new.items.entries) c.in_ok-new_keys.field-0.new.items c.as_slice.result.now made)

changed : (c : goal.After-drop-new_keys-2) → from_entries {R = key_order} c.drop_items.new.items.entries ≡ applied c.args.self.now c.args.plan.now
changed c =
    let step = c.requires.1 in
    let arrivals = c.in_ok-new_keys.ensures in
    all_changed key_order_total key_order-IsAntisymmetric (from_entries c.self.inside.items.entries) (from_entries c.insert_new.new.items.entries)
    (from_entries c.replace_items.new.items.entries) (from_entries c.drop_items.new.items.entries) c.args.plan.now.put c.args.plan.now.dropped
    c.in_ok-new_keys.field-0.new.items c.in_ok-new_keys.field-0.replacing.items step.items.put_in_order step.items.dropped_in_order
    (rw c.as_slice.ensures at arrivals.new) (rw c.as_slice.ensures at arrivals.replacing)
    (on_success c.insert_new.result (sym c.is_err.ensures.value ∙ c.if-is_err.false) c.insert_new.ensures.ok)
    c.replace_items.ensures.replaced c.drop_items.ensures.dropped
    ∙ ap (λ v. applied v c.args.plan.now) c.self.view_is

pub invariant_of-self-2 : goal.invariant_of-self-2
invariant_of-self-2 c =
    let step = c.requires.1 in
    let plan = c.args.plan.now in
    let now = step.items.made ∙ sym (changed c) in (
      subst AreSound now step.sound,
      c.drop_items.ensures.ordered,
      λ path.
          c.set_prints.ensures path
          ∙ ap (λ o. fold (with_print path) o c.as_slice-4.result.now) (c.drop_references-2.ensures path)
          ∙ ap (λ o. fold (with_print path) (fold (without_reference path) o c.as_slice-3.result.now) c.as_slice-4.result.now) (c.in_ok-add_references.ensures.ok path)
          ∙ (λ i. fold (with_print path) (fold (without_reference path) (fold (with_reference path) (c.self.invariant.2 path i) (c.as_slice-2.ensures i)) (c.as_slice-3.ensures i)) (c.as_slice-4.ensures i))
          ∙ ap (λ (v : ShelvesValue). fold (with_print path) (fold (without_reference path) (fold (with_reference path) (shared_at path (files_of (values v))) plan.references_put) plan.references_dropped) plan.files_added) c.self.view_is
          ∙ counted_step c.args.self.now c.requires.0 plan step path
          ∙ ap (λ v. shared_at path (files_of (values v))) now,
    )

pub returns-clause-ok : goal.returns-clause-ok
returns-clause-ok c = changed c
