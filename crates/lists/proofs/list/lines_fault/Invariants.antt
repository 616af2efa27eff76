use Rattle.std.proofs.Common.{◌≡◌, map, drop}
use Rattle.lists.specs.Lists.{fault_behind}
use Rattle.lists.proofs.list.lines_fault.Given as goal

-- what has not been looked at decides
abbrev pub invariant-loop-index : goal.invariant-loop-index
invariant-loop-index l = fault_behind l.index (map (λ line. line.now) (drop l.index l.lines)) ≡ fault_behind 0 (map (λ line. line.now) l.lines)
