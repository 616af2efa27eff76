use Rattle.std.proofs.Common.{◌≡◌, filter, map, not, take}
use Rattle.tables.specs.Uploads.{is_judged as has_place}
use Rattle.tables_audit.proofs.uploads.wanted.unplaced.Given as goal

-- the rows so far
abbrev pub invariant-loop-row : goal.invariant-loop-row
invariant-loop-row l = map (λ x. x.now) l.rows.items ≡ filter (λ x. not (has_place x.1)) (take l.row-index l.uploads)
