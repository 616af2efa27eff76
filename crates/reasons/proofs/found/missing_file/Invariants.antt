use Rattle.std.proofs.Common.{◌≡◌, drop}
use Rattle.std.specs.Prelude.{find}
use Rattle.suites.specs.Shelves.{pool}
use Rattle.suites.specs.Verdict.{by_print, is_missing_file}
use Rattle.reasons.proofs.found.missing_file.Given as goal

-- what is found in the rest is what is found
abbrev pub invariant-loop-entry : goal.invariant-loop-entry
invariant-loop-entry l =
    find (is_missing_file by_print (pool l.shelves) l.changes) (drop l.entry-index l.dsc.entries) ≡ find (is_missing_file by_print (pool l.shelves) l.changes) l.dsc.entries
