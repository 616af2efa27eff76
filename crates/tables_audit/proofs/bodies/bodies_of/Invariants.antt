use Rattle.std.proofs.Common.{◌≡◌, map, take}
use Rattle.tables.specs.Rows.{rows_of}
use Rattle.tables_audit.proofs.bodies.bodies_of.Given as goal

-- the numbers so far
abbrev pub invariant-loop-row : goal.invariant-loop-row
invariant-loop-row l = l.numbers.items ≡ map (λ a. a.body) (rows_of (take l.row-index l.arrivals))
