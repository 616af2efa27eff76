use Rattle.std.proofs.Common.{rules}
use Rattle.tables_meaning.specs.Kept.{ref_order}
use Rattle.tables_meaning.proofs.NumberOrders.{ref_order_total}
use Rattle.tables_meaning.proofs.SortedLemmas.{sorted_same}
use Rattle.tables_audit.proofs.items.refs_in_order.Goals as goal

pub returns : goal.returns
returns c =
    sorted_same ref_order ref_order_total c.args.refs.items c.sort_by.new.self.items c.in_ok-sort_by.ensures.sorted c.sort_by.ensures.stable (λ a r q k. search rules)
