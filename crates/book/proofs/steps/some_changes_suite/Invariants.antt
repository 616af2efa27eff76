use Rattle.std.proofs.Common.{◌≡◌, drop}
use Rattle.book.specs.Scan.{some_touches}
use Rattle.book.proofs.steps.some_changes_suite.Given as goal

abbrev pub invariant-loop-step : goal.invariant-loop-step
invariant-loop-step l = some_touches l.suite (drop l.step-index l.steps) ≡ some_touches l.suite l.steps
