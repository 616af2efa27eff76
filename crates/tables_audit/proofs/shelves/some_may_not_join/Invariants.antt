use Rattle.std.proofs.Common.{◌≡◌, drop}
use Rattle.std.specs.List.{list_any}
use Rattle.suites.specs.Shelves.{pool}
use Rattle.tables_meaning.specs.Shown.{may_not_join}
use Rattle.tables_audit.proofs.shelves.some_may_not_join.Given as goal

-- what has not been looked at decides
abbrev pub invariant-loop-file : goal.invariant-loop-file
invariant-loop-file l = list_any (may_not_join (pool l.shelves) l.files) (drop l.file-index l.files) ≡ list_any (may_not_join (pool l.shelves) l.files) l.files
