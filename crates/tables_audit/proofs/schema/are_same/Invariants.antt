use Rattle.std.proofs.Common.{◌≡◌, take}
use Rattle.tables_audit.proofs.schema.are_same.Given as goal

-- the parts so far are the same
abbrev pub invariant-loop-i : goal.invariant-loop-i
invariant-loop-i g l = take l.i l.all ≡ take l.i l.others
