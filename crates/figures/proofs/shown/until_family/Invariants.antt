use Rattle.std.proofs.Common.{◌≡◌, take}
use Rattle.std.specs.List.{enumerate_from, flat_map}
use Rattle.figures.specs.Families.{until_samples}
use Rattle.figures.proofs.shown.until_family.Given as goal

abbrev pub invariant-loop-position : goal.invariant-loop-position
invariant-loop-position l = l.samples.items ≡ flat_map (until_samples l.dates) (take l.position (enumerate_from 0 l.suites))
