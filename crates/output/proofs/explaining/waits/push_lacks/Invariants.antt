use Rattle.std.proofs.Common.{◌≡◌, ◌++◌, drop, length, map, string_bytes}
use Rattle.std.specs.List.{flat_map, zip}
use Rattle.output.specs.Explaining.Waits.{lack_lines, lacks_lines}
use Rattle.output.proofs.explaining.waits.push_lacks.Given as goal

abbrev pub invariant-loop-lack : goal.invariant-loop-lack
invariant-loop-lack l =
    map string_bytes l.lines.items ++ flat_map (λ pair. lack_lines pair.0 pair.1) (drop (length l.yielded) (zip l.lacks l.came))
    ≡ map string_bytes l.fn.lines.items ++ lacks_lines l.lacks l.came
