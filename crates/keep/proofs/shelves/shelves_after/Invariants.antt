use Rattle.std.proofs.Common.{◌≡◌, drop}
use Rattle.book.specs.Book.{shown_past}
use Rattle.book.specs.Keeping.{AreSteps}
use Rattle.keep.proofs.shelves.shelves_after.Given as goal

abbrev pub invariant-loop-step : goal.invariant-loop-step
invariant-loop-step l = record {
  steps : AreSteps l.after (drop l.step-index l.steps);
  shown : shown_past l.after (drop l.step-index l.steps) ≡ shown_past l.shelves l.steps;
}
