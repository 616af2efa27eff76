use Rattle.std.proofs.Common.{All, take}
use Rattle.tables_read.specs.All.{tables_with}
use Rattle.tables_audit.proofs.ArrivalsLemmas.{MayBeKept}
use Rattle.tables_audit.proofs.arrivals.are_deliverable.Given as goal

-- the arrivals so far may be kept
abbrev pub invariant-loop-row : goal.invariant-loop-row
invariant-loop-row l = All (MayBeKept (tables_with l.pieces.all.now)) (take l.row-index l.rows)
