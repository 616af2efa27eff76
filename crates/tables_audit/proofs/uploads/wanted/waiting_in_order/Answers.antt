use Rattle.std.proofs.Common.{map, ap, sym, ◌∙◌, rules}
use Rattle.std.proofs.lemmas.Cmp.{on_total}
use Rattle.sqlite_keyed.proofs.SortLemmas.{sort_by-map}
use Rattle.tables_audit.specs.Uploads.{awaited_view, waiting_order}
use Rattle.tables_audit.proofs.UploadsOrders.{waiting_order_total}
use Rattle.tables_meaning.proofs.SortedLemmas.{sorted_same}
use Rattle.tables_audit.proofs.uploads.wanted.waiting_in_order.Goals as goal

pub returns : goal.returns
returns c =
    ap (map awaited_view)
    (sorted_same (λ a b. waiting_order (awaited_view a) (awaited_view b)) (on_total awaited_view waiting_order_total) c.args.awaited.items c.sort_by.new.self.items c.in_ok-sort_by.ensures.sorted c.sort_by.ensures.stable
    (λ a r q k. search rules))
    ∙ sym (sort_by-map waiting_order awaited_view c.args.awaited.items)
