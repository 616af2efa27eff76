use Rattle.std.proofs.Common.{not, refl, ap, ◌∙◌}
use Rattle.figures.proofs.Looked.{has_more}
use Rattle.figures.proofs.kept.add_print.Goals as goal

pub returns-clause-new : goal.returns-clause-new
returns-clause-new c = λ prints has. c.in_ok-insert.ensures.added ∙ ap not (has c.args.print.now)

pub returns-clause-seen : goal.returns-clause-seen
returns-clause-seen c = λ prints has.
    has_more c.args.seen.now c.insert.new.self _ c.args.print.now prints refl c.in_ok-insert.ensures.updates.0 has
