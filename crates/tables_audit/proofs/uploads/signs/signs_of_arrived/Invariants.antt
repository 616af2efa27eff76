use Rattle.std.proofs.Common.{◌≡◌, map, take}
use Rattle.tables_audit.specs.Signs.{arrived_sign, sign_of}
use Rattle.tables_audit.proofs.uploads.signs.signs_of_arrived.Given as goal

-- the names and the prints so far
abbrev pub invariant-loop-one : goal.invariant-loop-one
invariant-loop-one l = map sign_of l.signs.items ≡ map arrived_sign (take l.one-index l.arrived)
