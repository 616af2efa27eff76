use Rattle.std.proofs.Common.{false, Some, sym, ap, ◌∙◌}
use Rattle.std.specs.Option.{option_map_or}
use Rattle.tables_meaning.specs.Cleaning.{counts_row}
use Rattle.tables_counting.proofs.counting.counts_under.Goals as goal

pub returns-in-Some-clause-ok : goal.returns-in-Some-clause-ok
returns-in-Some-clause-ok g c clean t was =
    let read = c.in_ok-found.ensures.ok clean t was in
    (c.counts.ensures ∙ ap (λ o. option_map_or (λ x. counts_row (Some c.args.seconds) c.args.moment x.1) o false) (sym c.in-Some.is ∙ read.0), read.1)

pub returns-in-None-clause-ok : goal.returns-in-None-clause-ok
returns-in-None-clause-ok g c clean t was =
    let read = c.in_ok-found.ensures.ok clean t was in
    (ap (λ o. option_map_or (λ x. counts_row (Some c.args.seconds) c.args.moment x.1) o false) (sym c.in-None.is ∙ read.0), read.1)
