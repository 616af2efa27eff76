use Rattle.std.proofs.Common.{◌≡◌, ◌++◌, drop, map}
use Rattle.serde_json.specs.View.{view}
use Rattle.output.specs.Explaining.Waits.{file_data}
use Rattle.output.proofs.explaining.waits.push_came.Given as goal

abbrev pub invariant-loop-print : goal.invariant-loop-print
invariant-loop-print l = map view l.values.items ++ map (file_data l.lack.name) (drop l.print-index l.came) ≡ map view l.fn.values.items ++ map (file_data l.lack.name) l.came
