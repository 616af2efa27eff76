use Rattle.std.proofs.Common.{◌≡◌, map, take}
use Rattle.tables.proofs.read.typed.Given as goal

-- the rows so far
abbrev pub invariant-loop-row : goal.invariant-loop-row
invariant-loop-row g l = l.all.items ≡ map g.T.FromRow.of_row (take l.row-index l.rows)
