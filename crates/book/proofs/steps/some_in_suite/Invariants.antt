use Rattle.std.proofs.Common.{◌≡◌, drop}
use Rattle.book.specs.Scan.{is_put_in}
use Rattle.book.proofs.steps.some_in_suite.Given as goal

abbrev pub invariant-loop-entry : goal.invariant-loop-entry
invariant-loop-entry l = is_put_in l.suite (drop l.entry-index l.entries) ≡ is_put_in l.suite l.entries
