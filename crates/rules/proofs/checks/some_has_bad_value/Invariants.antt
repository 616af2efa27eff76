use Rattle.std.proofs.Common.{◌≡◌, drop}
use Rattle.std.specs.List.{list_any}
use Rattle.rules.specs.Paragraphs.{has_bad_value}
use Rattle.rules.proofs.checks.some_has_bad_value.Given as goal

-- what has not been looked at decides
abbrev pub invariant-loop-paragraph : goal.invariant-loop-paragraph
invariant-loop-paragraph l = list_any has_bad_value (drop l.paragraph-index l.paragraphs) ≡ list_any has_bad_value l.paragraphs
