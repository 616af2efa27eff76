use Rattle.suites.specs.KeyLemmas.{key_order_total, key_order-IsAntisymmetric}
use Rattle.suites.proofs.MapLemmas.{remove-view}
use Rattle.suites.proofs.shelves.remove_item.Goals as goal

pub returns-clause-removed : goal.returns-clause-removed
returns-clause-removed c =
    remove-view key_order_total key_order-IsAntisymmetric c.args.items.now c.remove.new.self c.args.key.now c.remove.ensures.updates
