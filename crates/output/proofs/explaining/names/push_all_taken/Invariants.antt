use Rattle.std.proofs.Common.{◌≡◌, ◌++◌, drop, map, string_bytes}
use Rattle.output.specs.Explaining.About.{taken}
use Rattle.output.proofs.explaining.names.push_all_taken.Given as goal

abbrev pub invariant-loop-name : goal.invariant-loop-name
invariant-loop-name l = map string_bytes l.lines.items ++ map (taken l.codename) (drop l.name-index l.names) ≡ map string_bytes l.fn.lines.items ++ map (taken l.codename) l.names
