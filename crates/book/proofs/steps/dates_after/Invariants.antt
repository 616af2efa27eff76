use Rattle.std.proofs.Common.{◌≡◌, ◌≤◌, ◌++◌, All, drop}
use Rattle.book.specs.Book.{latest}
use Rattle.book.proofs.Dates.{dated}
use Rattle.book.proofs.steps.dates_after.Given as goal

abbrev pub invariant-loop-suite : goal.invariant-loop-suite
invariant-loop-suite l = record {
  in_range : All (λ date. date ≤ latest) l.after.items;
  after : l.after.items ++ dated l.moment l.steps l.suite (drop l.suite l.dates) ≡ dated l.moment l.steps 0 l.dates;
}
