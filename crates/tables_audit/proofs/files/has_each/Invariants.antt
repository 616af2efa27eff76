use Rattle.std.proofs.Common.{◌≡◌}
use Rattle.std.specs.List.{list_all}
use Rattle.tables_audit.proofs.FilesLemmas.{is_there}
use Rattle.tables_audit.proofs.files.has_each.Given as goal

-- what has not been looked at decides
abbrev pub invariant-loop-path : goal.invariant-loop-path
invariant-loop-path l = list_all (is_there l.paths) l.path-iterator ≡ list_all (is_there l.paths) l.fn.pool.entries
