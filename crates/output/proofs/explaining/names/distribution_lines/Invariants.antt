use Rattle.std.proofs.Common.{◌≡◌, ◌++◌, ◌∷◌, codes, drop, map, string_bytes}
use Rattle.std.specs.List.{flat_map}
use Rattle.output.specs.Explaining.About.{taken_by}
use Rattle.output.specs.Explaining.Words.{spaced}
use Rattle.output.proofs.explaining.names.distribution_lines.Given as goal

abbrev pub invariant-loop-suite : goal.invariant-loop-suite
invariant-loop-suite l = map string_bytes l.lines.items ++ flat_map taken_by (drop l.suite-index l.config.suites) ≡ spaced (codes "distribution") l.name ∷ flat_map taken_by l.config.suites
