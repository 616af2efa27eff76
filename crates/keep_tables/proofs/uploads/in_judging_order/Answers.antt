use Rattle.std.proofs.Common.{rules}
use Rattle.tables_meaning.specs.Reads.{row_order}
use Rattle.tables_meaning.proofs.SignOrder.{row_order_total}
use Rattle.tables_meaning.proofs.SortedLemmas.{sorted_same}
use Rattle.keep_tables.proofs.uploads.in_judging_order.Goals as goal

pub returns : goal.returns
returns c =
    sorted_same row_order row_order_total c.args.uploads.items c.sort_by.new.self.items c.in_ok-sort_by.ensures.sorted c.sort_by.ensures.stable (λ a r q k. search rules)
