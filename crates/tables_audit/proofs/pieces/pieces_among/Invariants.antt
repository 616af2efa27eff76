use Rattle.std.proofs.Common.{◌≡◌, filter, map, take}
use Rattle.tables.specs.Pieces.{is_of}
use Rattle.tables.specs.Rows.{rows_of}
use Rattle.tables_audit.proofs.pieces.pieces_among.Given as goal

-- the pieces so far
abbrev pub invariant-loop-row : goal.invariant-loop-row
invariant-loop-row l = map (λ p. p.now) l.pieces.items ≡ filter (is_of l.id) (rows_of (take l.row-index l.rows))
