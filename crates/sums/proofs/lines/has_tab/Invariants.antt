use Rattle.std.proofs.Common.{◌≡◌, take}
use Rattle.std.specs.List.{list_any}
use Rattle.sums.specs.Lines.{is_tab}
use Rattle.sums.proofs.lines.has_tab.Given as goal

abbrev pub invariant-loop-c : goal.invariant-loop-c
invariant-loop-c l = l.found ≡ list_any is_tab (take l.c-index l.c-items)
