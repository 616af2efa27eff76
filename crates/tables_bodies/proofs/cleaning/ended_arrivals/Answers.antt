use Rattle.std.proofs.Common.{filter, not, ap, ◌∙◌}
use Rattle.tables_meaning.specs.Cleaning.{counts_row}
use Rattle.tables_bodies.proofs.cleaning.ended_arrivals.Goals as goal

pub returns-clause-ok : goal.returns-clause-ok
returns-clause-ok g c clean t was =
    let read = c.in_ok-arrivals.ensures.ok clean t was in
    (c.retain_ended.ensures ∙ ap (filter (λ x. not (counts_row c.args.span c.args.moment x.1))) read.0, read.1)
