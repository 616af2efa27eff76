use Rattle.std.proofs.Common.{◌≡◌, ◌++◌, drop}
use Rattle.output.specs.Fields.{unknown_behind}
use Rattle.output.proofs.checking.fields.unknown_of.Given as goal

-- what is found and what is left make the whole
abbrev pub invariant-loop-number : goal.invariant-loop-number
invariant-loop-number l = l.found.items ++ unknown_behind l.number (drop l.number l.paragraphs) ≡ unknown_behind 0 l.paragraphs
