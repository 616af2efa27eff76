use Rattle.std.proofs.Common.{◌≡◌, drop}
use Rattle.std.specs.List.{list_all}
use Rattle.tables_meaning.specs.Changing.{is_within}
use Rattle.keep_tables.proofs.changes.are_inside.Given as goal

-- those that are left decide
abbrev pub invariant-loop-entry : goal.invariant-loop-entry
invariant-loop-entry l = list_all (is_within l.suites) (drop l.entry-index l.entries) ≡ list_all (is_within l.suites) l.entries
