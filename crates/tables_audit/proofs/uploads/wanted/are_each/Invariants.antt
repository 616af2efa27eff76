use Rattle.std.proofs.Common.{◌≡◌, map, take}
use Rattle.tables_audit.specs.Uploads.{awaited_view, printed, request_among, request_row}
use Rattle.tables_audit.proofs.uploads.wanted.are_each.Given as goal

-- the rows so far are those of the .changes so far
abbrev pub invariant-loop-index : goal.invariant-loop-index
invariant-loop-index l = map (λ x. request_row l.wants.all.now x.now) (take l.index l.rows) ≡ map (λ a. request_among (map printed l.arrived.all.now) (awaited_view a)) (take l.index l.awaited)
