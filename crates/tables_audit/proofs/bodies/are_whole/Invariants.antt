use Rattle.std.proofs.Common.{All, take}
use Rattle.tables_read.specs.All.{tables_with}
use Rattle.tables_audit.specs.Bodies.{IsBodyFit}
use Rattle.tables_audit.proofs.bodies.are_whole.Given as goal

-- the bodies so far are whole
abbrev pub invariant-loop-row : goal.invariant-loop-row
invariant-loop-row l = All (IsBodyFit (tables_with l.pieces.all.now)) (take l.row-index l.rows)
