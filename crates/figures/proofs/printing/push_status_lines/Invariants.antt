use Rattle.std.proofs.Common.{◌≡◌, ◌++◌, string_bytes, take}
use Rattle.std.specs.List.{flat_map}
use Rattle.figures.specs.Printing.{status_line}
use Rattle.figures.proofs.printing.push_status_lines.Given as goal

abbrev pub invariant-loop-sample : goal.invariant-loop-sample
invariant-loop-sample l = string_bytes l.out ≡ string_bytes l.fn.out ++ flat_map (status_line l.figure) (take l.sample-index l.sample-items)
