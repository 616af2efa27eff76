use Rattle.std.proofs.Common.{◌≡◌, map, take}
use Rattle.tables_matching.specs.Rows.{want_row}
use Rattle.tables_audit.specs.Uploads.{printed, wanted_among}
use Rattle.tables_audit.proofs.uploads.wanted.are_wanted.Given as goal

-- the rows so far are those of the listed files so far
abbrev pub invariant-loop-index : goal.invariant-loop-index
invariant-loop-index l = map (λ w. want_row w.now) (take l.index l.wants) ≡ map (λ e. wanted_among (map printed l.arrived.all.now) e.now) (take l.index l.entries)
