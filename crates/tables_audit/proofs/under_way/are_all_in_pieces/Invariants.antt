use Rattle.std.proofs.Common.{All, take}
use Rattle.tables_read.specs.All.{tables_with}
use Rattle.tables_audit.specs.Bodies.{IsInPieces}
use Rattle.tables_audit.proofs.under_way.are_all_in_pieces.Given as goal

-- the bodies so far are whole or in pieces
abbrev pub invariant-loop-row : goal.invariant-loop-row
invariant-loop-row l = All (IsInPieces (tables_with l.pieces.all.now)) (take l.row-index l.rows)
