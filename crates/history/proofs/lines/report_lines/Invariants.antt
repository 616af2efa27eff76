use Rattle.std.proofs.Common.{◌≡◌, ◌++◌, map, drop}
use Rattle.std.specs.String.{string_bytes}
use Rattle.book.specs.Book.{judgements}
use Rattle.history.specs.Answers.{report_line}
use Rattle.history.proofs.lines.report_lines.Given as goal

abbrev pub invariant-loop-step : goal.invariant-loop-step
invariant-loop-step l = map string_bytes l.lines.items ++ map report_line (judgements (drop l.step-index l.steps)) ≡ map report_line (judgements l.steps)
