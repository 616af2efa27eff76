use Rattle.std.proofs.Common.{◌≡◌, ◌++◌, codes, drop, map, string_bytes}
use Rattle.output.specs.Explaining.Waits.{lack_lines}
use Rattle.output.specs.Explaining.Words.{file_words}
use Rattle.output.proofs.explaining.waits.push_lack.Given as goal

abbrev pub invariant-loop-print : goal.invariant-loop-print
invariant-loop-print l = map string_bytes l.lines.items ++ map (file_words (codes " came") l.lack.name) (drop l.print-index l.came) ≡ map string_bytes l.fn.lines.items ++ lack_lines l.lack l.came
