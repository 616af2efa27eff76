use Rattle.std.proofs.Common.{◌≡◌, map, take}
use Rattle.std.specs.String.{string_bytes}
use Rattle.history.specs.Answers.{copy_line}
use Rattle.history.specs.Commands.{copy_of}
use Rattle.history.proofs.promotion.copy_lines.Given as goal

abbrev pub invariant-loop-copy : goal.invariant-loop-copy
invariant-loop-copy l = map string_bytes l.lines.items ≡ map copy_line (map copy_of (take l.copy-index l.copies))
