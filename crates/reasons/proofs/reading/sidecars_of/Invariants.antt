use Rattle.std.proofs.Common.{◌≡◌, ◌++◌, map, drop}
use Rattle.suites.specs.Judging.{part_of}
use Rattle.reasons.specs.Reasons.{sidecars_of}
use Rattle.reasons.proofs.reading.sidecars_of.Given as goal

-- those that were read, and then what is in the rest
abbrev pub invariant-loop-part : goal.invariant-loop-part
invariant-loop-part l = l.sidecars.items ++ sidecars_of (map part_of (drop l.part-index l.part-items)) ≡ sidecars_of (map part_of l.part-items)
