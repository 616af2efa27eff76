use Rattle.std.proofs.Common.{◌≡◌, drop}
use Rattle.renewing.specs.Renewal.{some_changes_index}
use Rattle.renewing.proofs.renewal.some_changes_index.Given as goal

abbrev pub invariant-loop-step : goal.invariant-loop-step
invariant-loop-step l = some_changes_index l.suite l.place (drop l.step-index l.steps) ≡ some_changes_index l.suite l.place l.steps
