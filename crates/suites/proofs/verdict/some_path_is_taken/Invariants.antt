use Rattle.std.proofs.Common.{◌≡◌, drop}
use Rattle.std.specs.List.{list_any}
use Rattle.suites.specs.Shelves.{pool}
use Rattle.suites.specs.Verdict.{by_print, is_taken}
use Rattle.suites.proofs.verdict.some_path_is_taken.Given as goal

-- what has not been looked at decides
abbrev pub invariant-loop-entry : goal.invariant-loop-entry
invariant-loop-entry l =
    list_any (is_taken by_print (pool l.shelves) l.changes) (drop l.entry-index l.entries) ≡ list_any (is_taken by_print (pool l.shelves) l.changes) l.entries
