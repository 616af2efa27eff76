use Rattle.std.proofs.Common.{nat_eq, sym, ap, subst, ◌∙◌}
use Rattle.std.specs.List.{list_any}
use Rattle.std.specs.List.Sorted.{IsNonDecreasing}
use Rattle.tables_meaning.proofs.RisingNumbers.{found_among}
use Rattle.old_book.proofs.numbers.Numbers.contain.Goals as goal

pub returns : goal.returns
returns c =
    let id = c.args.id in
    c.is_ok.ensures.value
    ∙ found_among c.deref.result.now id c.binary_search.result (subst IsNonDecreasing (sym c.deref.ensures.value) c.args.self.now.rise) c.binary_search.ensures.position
    ∙ ap (list_any (λ n. nat_eq n id)) c.deref.ensures.value
