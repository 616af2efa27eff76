use Rattle.std.proofs.Common.{map, ap, sym, ◌∙◌, rules}
use Rattle.std.proofs.lemmas.Cmp.{on_total}
use Rattle.pages.specs.SuitePage.{listing_order}
use Rattle.pages.proofs.RowOrders.{listing_order_total}
use Rattle.book.proofs.Sorting.{sorted_by-map, sorted_same}
use Rattle.pages.proofs.grouped.in_listing_order.Goals as goal

pub returns : goal.returns
returns c =
    ap (map (λ i. i.now))
    (sorted_same (λ a b. listing_order a.now b.now) (on_total (λ i. i.now) listing_order_total) c.args.items.items c.sort_by.new.self.items c.in_ok-sort_by.ensures.sorted c.sort_by.ensures.stable
    (λ a r q k. search rules))
    ∙ sym (sorted_by-map listing_order (λ i. i.now) c.args.items.items)
