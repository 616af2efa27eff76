use Rattle.std.proofs.Common.{◌≡◌, map, take}
use Rattle.sums.specs.Lists.{entry_of_line}
use Rattle.sums.specs.Views.{lines_in}
use Rattle.sums.proofs.join.entries.Given as goal

abbrev pub invariant-loop-line : goal.invariant-loop-line
invariant-loop-line l = l.entries.items ≡ map (entry_of_line l.lists.kind (lines_in l.lists)) (take l.line-index l.lists.files.now)
