use Rattle.std.proofs.Common.{◌≡◌, filter, map, take}
use Rattle.tables.specs.Rows.{rows_of}
use Rattle.tables.specs.Wants.{is_wanted_by}
use Rattle.tables_audit.proofs.uploads.wanted.wants_of.Given as goal

-- what it wants so far
abbrev pub invariant-loop-row : goal.invariant-loop-row
invariant-loop-row l = map (λ w. w.now) l.found.items ≡ filter (is_wanted_by l.upload) (rows_of (take l.row-index l.wants))
