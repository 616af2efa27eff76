use Rattle.std.proofs.Common.{◌≡◌, take}
use Rattle.keep_tables.specs.Finishing.{unfinished_ids}
use Rattle.keep_tables.proofs.opening.unfinished.unfinished_among.Given as goal

-- the numbers so far
abbrev pub invariant-loop-row : goal.invariant-loop-row
invariant-loop-row l = l.ids.items ≡ unfinished_ids (take l.row-index l.bodies)
