use Rattle.std.proofs.Common.{◌∙◌}
use Rattle.tables_audit.proofs.UploadsSteps.{print_same}
use Rattle.tables_audit.proofs.uploads.arrived.print_by_number.Goals as goal

pub returns : goal.returns
returns c = c.print_of_body.ensures ∙ print_same c.args.id c.about.result.now c.args.bodies.now.all.now c.about.ensures
