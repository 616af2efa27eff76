use Rattle.std.proofs.Common.{◌≡◌, ◌++◌, codes, drop, string_bytes}
use Rattle.std.specs.List.{flat_map}
use Rattle.output.specs.Explaining.About.{suite_words}
use Rattle.output.proofs.explaining.names.suite_line.Given as goal

abbrev pub invariant-loop-name : goal.invariant-loop-name
invariant-loop-name l = string_bytes l.line ++ flat_map (λ name. codes " " ++ name) (drop l.name-index l.names) ≡ suite_words l.suite l.word l.names
