use Rattle.std.proofs.Common.{◌≡◌, drop}
use Rattle.std.specs.List.{list_any}
use Rattle.suites.specs.Shelves.{pool}
use Rattle.suites.specs.Verdict.{by_print, is_missing_file}
use Rattle.suites.proofs.verdict.lacks_a_file.Given as goal

-- what has not been looked at decides
abbrev pub invariant-loop-entry : goal.invariant-loop-entry
invariant-loop-entry l =
    list_any (is_missing_file by_print (pool l.shelves) l.changes) (drop l.entry-index l.listed) ≡ list_any (is_missing_file by_print (pool l.shelves) l.changes) l.listed
