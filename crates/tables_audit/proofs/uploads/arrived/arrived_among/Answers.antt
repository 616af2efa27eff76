use Rattle.std.proofs.Common.{sym, ◌∙◌, arith}
use Rattle.tables_audit.specs.Uploads.{print_among}
use Rattle.tables_audit.proofs.UploadsSteps.{none_at_row}
use Rattle.tables_audit.proofs.uploads.arrived.arrived_among.Goals as goal

pub returns-in_default-clause-none : goal.returns-in_default-clause-none
returns-in_default-clause-none c e =
    none_at_row (λ a. print_among c.args.bodies.now.all.now a.body) c.args.arrivals.now c.loop-arrival.arrival-index c.loop-arrival-item.result (omega arith) c.loop-arrival-item.is
    (sym c.print_by_number.ensures ∙ c.in_default.is)
