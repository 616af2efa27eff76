use Rattle.std.proofs.Common.{take}
use Rattle.inquiry.specs.Named.{IsByName}
use Rattle.inquiry.proofs.named.by_name.Given as goal

-- the groups of what came so far
abbrev pub invariant-loop-file : goal.invariant-loop-file
invariant-loop-file l = IsByName (take l.file-index l.arrived) l.named
