use Rattle.std.proofs.Common.{map, ap, sym, ◌∙◌, rules}
use Rattle.std.proofs.lemmas.Cmp.{on_total}
use Rattle.sqlite_keyed.proofs.SortLemmas.{sort_by-map}
use Rattle.suites.specs.Keys.{text_order}
use Rattle.suites.specs.KeyLemmas.{text_order_total}
use Rattle.tables_meaning.proofs.SortedLemmas.{sorted_same}
use Rattle.tables_meaning.specs.Kept.{entry_order}
use Rattle.tables_audit.proofs.uploads.wanted.entries_by_name.Goals as goal

pub returns : goal.returns
returns c =
    ap (map (λ a. a.now))
    (sorted_same (λ a b. text_order a.now.name b.now.name) (on_total (λ a. a.now.name) text_order_total) c.args.entries.items c.sort_by.new.self.items c.in_ok-sort_by.ensures.sorted c.sort_by.ensures.stable
    (λ a r q k. search rules))
    ∙ sym (sort_by-map entry_order (λ a. a.now) c.args.entries.items)
