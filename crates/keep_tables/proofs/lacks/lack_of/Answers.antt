use Rattle.std.proofs.Common.{if◌then◌else◌, Some, None, sym, ap, ◌∙◌}
use Rattle.keep_tables.proofs.lacks.lack_of.Goals as goal

pub returns-then-had-clause-ok : goal.returns-then-had-clause-ok
returns-then-had-clause-ok g c clean t was =
    let want = c.args.want in
    let read = c.in_ok-had.ensures.ok clean t was in
    (ap (λ b. if b then None else Some (record { name = want.name; print = want.print; is_ended = want.here })) (sym c.if-had.true ∙ read.0), read.1)

pub returns-clause-ok : goal.returns-clause-ok
returns-clause-ok g c clean t was =
    let want = c.args.want in
    let read = c.in_ok-had.ensures.ok clean t was in
    (ap (λ b. if b then None else Some (record { name = want.name; print = want.print; is_ended = want.here })) (sym c.if-had.false ∙ read.0), read.1)
