use Rattle.std.proofs.Common.{◌≡◌, map, take}
use Rattle.std.specs.String.{string_bytes}
use Rattle.history.specs.Answers.{line_on_waiting}
use Rattle.history.proofs.report.waiting_lines.Given as goal

abbrev pub invariant-loop-upload : goal.invariant-loop-upload
invariant-loop-upload l = map string_bytes l.lines.items ≡ map line_on_waiting (take l.upload-index l.uploads)
