use Rattle.std.proofs.Common.{◌≡◌, ◌++◌, drop, filter, map, string_bytes}
use Rattle.rules.specs.Suites.{fits_source}
use Rattle.output.specs.Explaining.About.{rule_words}
use Rattle.output.proofs.explaining.names.lines_of_rules.Given as goal

abbrev pub invariant-loop-rule : goal.invariant-loop-rule
invariant-loop-rule l = map string_bytes l.lines.items ++ map rule_words (filter (λ r. fits_source r.source l.source) (drop l.rule-index l.rules)) ≡ map rule_words (filter (λ r. fits_source r.source l.source) l.rules)
