use Rattle.std.proofs.Common.{◌∙◌}
use Rattle.suites.specs.KeyLemmas.{key_order_total, key_order-IsAntisymmetric}
use Rattle.suites.proofs.MapLemmas.{insert-view, get-view}
use Rattle.suites.proofs.shelves.insert_item.Goals as goal

pub returns-in-Ok-clause-ok : goal.returns-in-Ok-clause-ok
returns-in-Ok-clause-ok c =
    insert-view key_order_total key_order-IsAntisymmetric c.args.items.now c.insert.new.self c.args.key c.args.item c.in-Ok.ensures.updates

pub returns-clause-absent : goal.returns-clause-absent
returns-clause-absent c = get-view key_order_total c.args.items.now c.args.key ∙ c.in-Err.ensures.absent
