use Rattle.std.proofs.Common.{◌≡◌, filter, take}
use Rattle.tables.specs.Refs.{is_ref_of}
use Rattle.tables.specs.Rows.{rows_of}
use Rattle.tables_audit.proofs.items.refs_of.Given as goal

-- the rows so far
abbrev pub invariant-loop-row : goal.invariant-loop-row
invariant-loop-row l = l.found.items ≡ filter (is_ref_of l.item) (rows_of (take l.row-index l.refs))
