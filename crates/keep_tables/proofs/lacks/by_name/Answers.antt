use Rattle.std.proofs.Common.{rules}
use Rattle.tables_meaning.proofs.SortedLemmas.{sorted_same}
use Rattle.keep_tables.specs.Moments.{name_order}
use Rattle.keep_tables.proofs.LackLemmas.{name_order_total}
use Rattle.keep_tables.proofs.lacks.by_name.Goals as goal

pub returns : goal.returns
returns c =
    sorted_same name_order name_order_total c.args.wants.items c.sort_by.new.self.items c.in_ok-sort_by.ensures.sorted c.sort_by.ensures.stable (λ a r q k. search rules)
