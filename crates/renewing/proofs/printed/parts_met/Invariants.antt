use Rattle.std.proofs.Common.{◌≡◌, ◌++◌, take}
use Rattle.renewing.specs.Printed.{joined}
use Rattle.renewing.proofs.printed.parts_met.Given as goal

abbrev pub invariant-loop-index : goal.invariant-loop-index
invariant-loop-index l = joined (take l.index l.parts) ++ l.rest ≡ l.text
