use Rattle.std.proofs.Common.{map, ap, sym, ◌∙◌, rules}
use Rattle.std.proofs.lemmas.Cmp.{nat_cmp_total, on_total}
use Rattle.sqlite_keyed.proofs.SortLemmas.{sort_by-map}
use Rattle.tables_meaning.specs.Kept.{piece_order}
use Rattle.tables_meaning.proofs.SortedLemmas.{sorted_same}
use Rattle.tables_audit.proofs.pieces.in_order.Goals as goal

pub returns : goal.returns
returns c =
    ap (map (λ p. p.now))
    (sorted_same (λ p q. piece_order p.now q.now) (on_total (λ p. p.now.number) nat_cmp_total) c.args.pieces.items c.sort_by.new.self.items c.in_ok-sort_by.ensures.sorted c.sort_by.ensures.stable
    (λ a r q k. search rules))
    ∙ sym (sort_by-map piece_order (λ p. p.now) c.args.pieces.items)
