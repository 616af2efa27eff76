use Rattle.std.proofs.Common.{◌≡◌, take}
use Rattle.std.specs.List.{flat_map}
use Rattle.suites.specs.Plan.{references_of}
use Rattle.suites.proofs.admission.references.Given as goal

abbrev pub invariant-loop-key : goal.invariant-loop-key
invariant-loop-key l = l.references.items ≡ flat_map references_of (take l.key-index l.entries)
