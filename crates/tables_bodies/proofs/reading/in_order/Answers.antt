use Rattle.std.proofs.Common.{rules}
use Rattle.tables_meaning.specs.Kept.{piece_order}
use Rattle.tables_meaning.proofs.NumberOrders.{piece_order_total}
use Rattle.tables_meaning.proofs.SortedLemmas.{sorted_same}
use Rattle.tables_bodies.proofs.reading.in_order.Goals as goal

pub returns : goal.returns
returns c =
    sorted_same piece_order piece_order_total c.args.pieces.items c.sort_by.new.self.items c.in_ok-sort_by.ensures.sorted c.sort_by.ensures.stable (λ a r q k. search rules)
