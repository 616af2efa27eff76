use Rattle.std.proofs.Props.{props}
use Rattle.std.proofs.Math.Logic.{∥∥₁_elim}
use Rattle.figures.proofs.shown.date_at.Goals as goal

pub returns-then-position-dates-clause-in_range : goal.returns-then-position-dates-clause-in_range
returns-then-position-dates-clause-in_range c = ∥∥₁_elim c.requires (hlevel props) (λ in_range. in_range c.args.position 0 c.if-position-dates.true)
