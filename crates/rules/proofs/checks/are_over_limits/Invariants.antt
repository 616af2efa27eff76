use Rattle.std.proofs.Common.{◌≡◌, drop}
use Rattle.std.specs.List.{list_any}
use Rattle.rules.specs.Paragraphs.{is_over_limits}
use Rattle.rules.proofs.checks.are_over_limits.Given as goal

-- what has not been looked at decides
abbrev pub invariant-loop-paragraph : goal.invariant-loop-paragraph
invariant-loop-paragraph l = list_any is_over_limits (drop l.paragraph-index l.paragraphs) ≡ list_any is_over_limits l.paragraphs
