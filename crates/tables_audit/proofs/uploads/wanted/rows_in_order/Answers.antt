use Rattle.std.proofs.Common.{map, ap, sym, ◌∙◌, rules}
use Rattle.std.proofs.lemmas.Cmp.{on_total}
use Rattle.sqlite_keyed.proofs.SortLemmas.{sort_by-map}
use Rattle.tables_meaning.specs.Reads.{row_order}
use Rattle.tables_meaning.proofs.SignOrder.{row_order_total}
use Rattle.tables_meaning.proofs.SortedLemmas.{sorted_same}
use Rattle.tables_audit.proofs.uploads.wanted.rows_in_order.Goals as goal

pub returns : goal.returns
returns c =
    ap (map (λ a. a.now))
    (sorted_same (λ a b. row_order a.now b.now) (on_total (λ a. a.now) row_order_total) c.args.rows.items c.sort_by.new.self.items c.in_ok-sort_by.ensures.sorted c.sort_by.ensures.stable
    (λ a r q k. search rules))
    ∙ sym (sort_by-map row_order (λ a. a.now) c.args.rows.items)
