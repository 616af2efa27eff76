use Rattle.std.proofs.Common.{◌≡◌, map, take}
use Rattle.std.specs.String.{string_bytes}
use Rattle.history.specs.Answers.{report_line}
use Rattle.history.proofs.report.verdict_lines.Given as goal

abbrev pub invariant-loop-judgement : goal.invariant-loop-judgement
invariant-loop-judgement l = map string_bytes l.lines.items ≡ map report_line (take l.judgement-index l.judged)
