use Rattle.std.proofs.Common.{◌≡◌, take}
use Rattle.suites.proofs.item.are_same_files.Given as goal

-- the files so far are the same
abbrev pub invariant-loop-index : goal.invariant-loop-index
invariant-loop-index l = take l.index l.ones ≡ take l.index l.others
