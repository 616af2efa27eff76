use Rattle.std.proofs.Common.{◌≡◌, drop}
use Rattle.tables_meaning.specs.Kept.{print_in}
use Rattle.tables_audit.proofs.files.print_of.Given as goal

-- what has not been looked at decides
abbrev pub invariant-loop-number : goal.invariant-loop-number
invariant-loop-number l = print_in (drop l.number-index l.bodies) l.id ≡ print_in l.bodies l.id
