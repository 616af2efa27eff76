use Rattle.std.proofs.Common.{◌≡◌, drop}
use Rattle.std.specs.Prelude.{find}
use Rattle.suites.specs.Shelves.{pool}
use Rattle.suites.specs.Verdict.{by_print, is_taken}
use Rattle.reasons.proofs.found.taken_entry.Given as goal

-- what is found in the rest is what is found
abbrev pub invariant-loop-entry : goal.invariant-loop-entry
invariant-loop-entry l =
    find (is_taken by_print (pool l.shelves) l.changes) (drop l.entry-index l.changes.entries) ≡ find (is_taken by_print (pool l.shelves) l.changes) l.changes.entries
