use Rattle.std.proofs.Common.{◌≡◌, drop}
use Rattle.std.specs.List.{list_any}
use Rattle.tables_meaning.specs.Making.{takes_file}
use Rattle.tables_bodies.proofs.sparing.some_take_files.Given as goal

-- those that are left decide
abbrev pub invariant-loop-step : goal.invariant-loop-step
invariant-loop-step l = list_any takes_file (drop l.step-index l.steps) ≡ list_any takes_file l.steps
