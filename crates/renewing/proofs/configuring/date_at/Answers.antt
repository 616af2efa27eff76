use Rattle.std.proofs.Common.{sym, arith}
use Rattle.std.proofs.Props.{props}
use Rattle.std.proofs.Math.Logic.{∥∥₁_elim}
use Rattle.std.proofs.lemmas.Option.{slice_get_past}
use Rattle.renewing.proofs.configuring.date_at.Goals as goal

pub returns-then-position-dates-clause-in_range : goal.returns-then-position-dates-clause-in_range
returns-then-position-dates-clause-in_range c = ∥∥₁_elim c.requires (hlevel props) (λ in_range. in_range c.args.position 0 c.if-position-dates.true)

pub returns-else-position-dates-clause-date : goal.returns-else-position-dates-clause-date
returns-else-position-dates-clause-date c = sym (slice_get_past c.args.dates.now c.args.position (omega (arith, c.if-position-dates.false)))
