use Rattle.std.proofs.Common.{◌≡◌, drop}
use Rattle.tables_audit.specs.Uploads.{print_among}
use Rattle.tables_audit.proofs.uploads.arrived.print_of_body.Given as goal

abbrev pub invariant-loop-number : goal.invariant-loop-number
invariant-loop-number l = print_among (drop l.number-index l.bodies) l.id ≡ print_among l.bodies l.id
