use Rattle.std.proofs.Common.{◌≡◌, map}
use Rattle.std.specs.List.{range_with_len}
use Rattle.figures.specs.Families.{verdict_sample}
use Rattle.figures.proofs.judged.verdicts_family.Given as goal

abbrev pub invariant-loop-number : goal.invariant-loop-number
invariant-loop-number l = l.samples.items ≡ map (verdict_sample l.judged) (range_with_len 0 l.number)
