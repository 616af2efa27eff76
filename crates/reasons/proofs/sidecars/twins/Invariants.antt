use Rattle.std.proofs.Common.{◌≡◌, drop}
use Rattle.reasons.specs.Named.{twins}
use Rattle.reasons.proofs.sidecars.twins.Given as goal

-- what has not been looked at decides
abbrev pub invariant-loop-index : goal.invariant-loop-index
invariant-loop-index l = twins (drop l.index l.sidecars) ≡ twins l.sidecars
