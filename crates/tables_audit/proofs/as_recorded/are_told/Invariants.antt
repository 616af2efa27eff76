use Rattle.std.specs.Prelude.{◌↔◌}
use Rattle.std.specs.List.{AllByRecursion}
use Rattle.std.specs.FinMap.{entries}
use Rattle.tables_audit.specs.Columns.{StandsTold}
use Rattle.tables_audit.proofs.as_recorded.are_told.Given as goal

-- what has not been looked at decides
abbrev pub invariant-loop-key : goal.invariant-loop-key
invariant-loop-key l = AllByRecursion (StandsTold l.config.suites) l.key-iterator ↔ AllByRecursion (StandsTold l.config.suites) (entries l.shelves)
