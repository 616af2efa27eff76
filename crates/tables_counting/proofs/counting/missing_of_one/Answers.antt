use Rattle.std.proofs.Common.{if◌then◌else◌, sym, ap, ◌∙◌}
use Rattle.tables_counting.proofs.counting.missing_of_one.Goals as goal

pub returns-then-had-clause-ok : goal.returns-then-had-clause-ok
returns-then-had-clause-ok g c clean t was =
    let read = c.in_ok-had.ensures.ok clean t was in
    (ap (λ b. if b then 0 else 1) (sym c.if-had.true ∙ read.0), read.1)

pub returns-else-had-clause-ok : goal.returns-else-had-clause-ok
returns-else-had-clause-ok g c clean t was =
    let read = c.in_ok-had.ensures.ok clean t was in
    (ap (λ b. if b then 0 else 1) (sym c.if-had.false ∙ read.0), read.1)
