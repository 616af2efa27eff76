use Rattle.std.proofs.Common.{◌≡◌, ◌++◌, drop}
use Rattle.book.specs.Book.{judgements}
use Rattle.book.proofs.steps.judgements_of.Given as goal

abbrev pub invariant-loop-step : goal.invariant-loop-step
invariant-loop-step l = l.more.items ++ judgements (drop l.step-index l.steps) ≡ judgements l.steps
