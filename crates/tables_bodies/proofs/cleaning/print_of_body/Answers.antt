use Rattle.std.proofs.Common.{ℕ, sym, ap, ◌∙◌}
use Rattle.std.specs.Option.{option_and_then}
use Rattle.tables.specs.declared.rows.BodyRow.{BodyRow}
use Rattle.tables_bodies.proofs.cleaning.print_of_body.Goals as goal

pub returns-in-Some-clause-ok : goal.returns-in-Some-clause-ok
returns-in-Some-clause-ok g c clean t was =
    let read = c.in_ok-found.ensures.ok clean t was in
    (ap (option_and_then (λ (x : ℕ × BodyRow). x.1.print)) (sym c.in-Some.is ∙ read.0), read.1)

pub returns-in-None-clause-ok : goal.returns-in-None-clause-ok
returns-in-None-clause-ok g c clean t was =
    let read = c.in_ok-found.ensures.ok clean t was in
    (ap (option_and_then (λ (x : ℕ × BodyRow). x.1.print)) (sym c.in-None.is ∙ read.0), read.1)
