use Rattle.std.proofs.Common.{take}
use Rattle.std.specs.List.{AllZip}
use Rattle.tables_read.specs.Reading.{Spells}
use Rattle.old_rows.proofs.shown.all_numbered.Given as goal

-- those so far are what the first rows spell
abbrev pub invariant-loop-row : goal.invariant-loop-row
invariant-loop-row g l = AllZip (Spells g.T.Stored.layout.seen) (take l.row-index l.rows) l.all.items
