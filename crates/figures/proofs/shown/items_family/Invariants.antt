use Rattle.std.proofs.Common.{◌≡◌, map, take}
use Rattle.std.specs.List.{enumerate_from}
use Rattle.figures.specs.Families.{items_sample}
use Rattle.figures.proofs.shown.items_family.Given as goal

abbrev pub invariant-loop-position : goal.invariant-loop-position
invariant-loop-position l = l.samples.items ≡ map (items_sample l.shelves) (take l.position (enumerate_from 0 l.suites))
