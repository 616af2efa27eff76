use Rattle.std.specs.FinMap.{from_entries}
use Rattle.suites.specs.KeyLemmas.{key_order_total}
use Rattle.suites.proofs.ItemChanges.{removed_more}
use Rattle.suites.proofs.shelves.remove_items.Goals as goal

pub loop-key-preserved : goal.loop-key-preserved
loop-key-preserved c = record {
  removed = removed_more key_order_total (from_entries c.args.items.now.entries) (from_entries c.loop-key.items.entries) (from_entries c.remove_item.new.items.entries)
      c.args.keys.now c.loop-key.key-index c.key-item.result c.loop-key-test.true c.key-item.is c.remove_item.ensures.removed c.loop-key.invariant.removed;
  ordered = c.remove_item.ensures.ordered;
}
