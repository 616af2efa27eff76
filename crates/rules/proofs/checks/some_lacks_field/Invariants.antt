use Rattle.std.proofs.Common.{◌≡◌, drop}
use Rattle.std.specs.List.{list_any}
use Rattle.rules.specs.Paragraphs.{lacks_field}
use Rattle.rules.proofs.checks.some_lacks_field.Given as goal

-- what has not been looked at decides
abbrev pub invariant-loop-paragraph : goal.invariant-loop-paragraph
invariant-loop-paragraph l = list_any lacks_field (drop l.paragraph-index l.paragraphs) ≡ list_any lacks_field l.paragraphs
