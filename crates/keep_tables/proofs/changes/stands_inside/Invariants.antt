use Rattle.std.proofs.Common.{◌≡◌, drop}
use Rattle.std.specs.List.{list_all}
use Rattle.tables_meaning.specs.Changing.{puts_within}
use Rattle.keep_tables.proofs.changes.stands_inside.Given as goal

-- those that are left decide
abbrev pub invariant-loop-step : goal.invariant-loop-step
invariant-loop-step l = list_all (puts_within l.suites) (drop l.step-index l.steps) ≡ list_all (puts_within l.suites) l.steps
