use Rattle.std.proofs.Common.{◌≡◌, ◌<◌, length, not, get_or, refl, sym, ap, subst, ◌∙◌}
use Rattle.std.specs.BTreeMap.{BTreeMap, IsOrdered}
use Rattle.std.specs.FinMap.{from_entries, find, remove}
use Rattle.std.specs.Prelude.{is_some}
use Rattle.suites.specs.Change.{without}
use Rattle.suites.specs.Keys.{key_order}
use Rattle.suites.specs.KeyLemmas.{key_order_total}
use Rattle.suites.specs.declared.item.Item.{Item}
use Rattle.suites.specs.declared.key.ShelfKey.{ShelfKey}
use Rattle.suites.proofs.ItemChanges.{one_gone, one_stays}
use Rattle.suites.proofs.shelves.drop_items.Goals as goal
use Rattle.suites.proofs.shelves.drop_items.Goals.{then-not-puts, else-not-puts}

pub loop-key-init : goal.loop-key-init
unfolding without
loop-key-init c = record { so_far = refl; ordered = c.requires.ordered }

pub loop-key-preserved : goal.loop-key-preserved
loop-key-preserved c =
    let i = c.loop-key.key-index in
    let e = c.loop-key-item.result in
    let start = from_entries {R = key_order} c.args.items.now.entries in
    let put = c.args.plan.now.put in
    let dropped = c.args.plan.now.dropped in
    let test = λ (e : ShelfKey × Item). not (is_some (find key_order e.0 put)) in
    let is = subst (λ xs. (i < length xs) × (e ≡ get_or xs i e)) c.as_slice-key-items.ensures (c.loop-key-test.true, c.loop-key-item.is) in
    let so_far = c.loop-key.invariant.so_far in
    elim c.if-not-puts.branch [
      | then-not-puts w ↦ record {
        so_far = ap (λ (m : BTreeMap ShelfKey Item). from_entries {R = key_order} m.entries) w.items-is
            ∙ w.remove_item.ensures.removed
            ∙ ap (λ m. remove m e.0) so_far
            ∙ one_gone key_order_total start test dropped i e is.0 is.1 (ap not (sym c.puts.ensures ∙ w.if-not-puts.true));
        ordered = subst (IsOrdered key_order) (sym w.items-is) w.remove_item.ensures.ordered;
      }
      | else-not-puts w ↦ record {
        so_far = ap (λ (m : BTreeMap ShelfKey Item). from_entries {R = key_order} m.entries) w.items-is
            ∙ so_far
            ∙ one_stays key_order_total start test dropped i e is.0 is.1 (ap not (sym c.puts.ensures ∙ w.if-not-puts.false));
        ordered = subst (IsOrdered key_order) (sym w.items-is) c.loop-key.invariant.ordered;
      }
    ]
