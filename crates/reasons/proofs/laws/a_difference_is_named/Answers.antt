use Rattle.reasons.proofs.Differing.{dsc_differs, sidecar_differs}
use Rattle.reasons.proofs.laws.a_difference_is_named.Goals as goal

pub returns-clause-dsc : goal.returns-clause-dsc
returns-clause-dsc c = dsc_differs

pub returns-clause-sidecar : goal.returns-clause-sidecar
returns-clause-sidecar c = sidecar_differs
