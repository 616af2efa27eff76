use Rattle.std.proofs.Common.{◌≡◌, ◌++◌, drop, map, string_bytes}
use Rattle.output.specs.Explaining.Words.{below}
use Rattle.output.proofs.explaining.answer.push_names.Given as goal

abbrev pub invariant-loop-name : goal.invariant-loop-name
invariant-loop-name l = map string_bytes l.lines.items ++ map below (map string_bytes (drop l.name-index l.names)) ≡ map string_bytes l.fn.lines.items ++ map below (map string_bytes l.names)
