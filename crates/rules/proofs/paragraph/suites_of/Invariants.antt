use Rattle.std.proofs.Common.{◌≡◌, map, take}
use Rattle.rules.specs.Paragraphs.{suite_of}
use Rattle.rules.proofs.paragraph.suites_of.Given as goal

abbrev pub invariant-loop-paragraph : goal.invariant-loop-paragraph
invariant-loop-paragraph l = l.suites.items ≡ map suite_of (take l.paragraph-index l.paragraphs)
