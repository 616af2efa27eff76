-- So far the archive was only read.
use Rattle.book.specs.Keeping.{Reads}
use Rattle.exporting.proofs.showing.take_steps.Given as goal

abbrev pub invariant-loop-step : goal.invariant-loop-step
invariant-loop-step g l =
    let k = g.K.Keeper in
    record { reads : Reads k.is_clean k.is_open k.faults k.book k.may_leave l.fn.archive.keeper l.archive.keeper }
