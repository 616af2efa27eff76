use Rattle.std.proofs.Common.{◌≡◌, map, drop}
use Rattle.suites.specs.Judging.{part_of}
use Rattle.reasons.specs.Reasons.{dsc_among}
use Rattle.reasons.proofs.reading.bad_dsc.Given as goal

-- what is found in the rest is what is found
abbrev pub invariant-loop-part : goal.invariant-loop-part
invariant-loop-part l = dsc_among l.most l.upload.changes (map part_of (drop l.part-index l.part-items)) ≡ dsc_among l.most l.upload.changes (map part_of l.part-items)
