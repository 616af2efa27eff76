use Rattle.std.proofs.Common.{◌≡◌, ◌++◌, map, take}
use Rattle.tables_audit.specs.TextRows.{print_from_root}
use Rattle.tables_audit.proofs.text_rows.push_prints.Given as goal

-- the prints of the indices so far
abbrev pub invariant-loop-index : goal.invariant-loop-index
invariant-loop-index l = l.prints.items ≡ l.fn.prints.items ++ map (print_from_root l.suite) (take l.index-index l.indices)
