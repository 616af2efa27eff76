use Rattle.std.proofs.Common.{◌≡◌, ◌++◌, take, map, string_bytes}
use Rattle.telling.specs.Why.{shown_lines}
use Rattle.telling.proofs.lines.push_all_shown.Given as goal

abbrev pub invariant-loop-line : goal.invariant-loop-line
invariant-loop-line l = l.out.items ≡ l.fn.out.items ++ shown_lines (map string_bytes (take l.line-index l.lines))
