-- What stands in the parts has been given to the printer, and the rest of the text has not.
use Rattle.std.proofs.Common.{◌≡◌, ◌++◌, length}
use Rattle.renewing.specs.Printed.{IsBehind, joined}
use Rattle.renewing.proofs.printed.print_parts.Given as goal

abbrev pub invariant-loop-rest : goal.invariant-loop-rest
invariant-loop-rest l = record {
  behind : ∥ IsBehind l.parts.items l.printer ∥₁;
  text : joined l.parts.items ++ l.rest ≡ l.text;
}

abbrev pub decreases-loop-rest : goal.decreases-loop-rest
decreases-loop-rest l = length l.rest
