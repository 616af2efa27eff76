use Rattle.std.proofs.Common.{◌≡◌, map, drop}
use Rattle.suites.specs.Verdict.{have_twins}
use Rattle.suites.proofs.verdict.have_twins.Given as goal

-- what has not been looked at decides
abbrev pub invariant-loop-index : goal.invariant-loop-index
invariant-loop-index l = have_twins (map (λ b. b.sidecar) (drop l.index l.binaries)) ≡ have_twins (map (λ b. b.sidecar) l.binaries)
