use Rattle.std.proofs.Common.{map, take}
use Rattle.suites.specs.Judging.{AreBinaryParts, part_of}
use Rattle.suites.proofs.verdict.binary_parts.Given as goal

abbrev pub invariant-loop-part : goal.invariant-loop-part
invariant-loop-part l = AreBinaryParts l.changes (map part_of (take l.part-index l.parts)) l.binaries.items
