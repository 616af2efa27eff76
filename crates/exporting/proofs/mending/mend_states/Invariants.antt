-- So far the archive was only read.
use Rattle.book.specs.Keeping.{Reads}
use Rattle.exporting.proofs.mending.mend_states.Given as goal

abbrev pub invariant-loop-suite : goal.invariant-loop-suite
invariant-loop-suite g l =
    let k = g.K.Keeper in
    record { reads : Reads k.is_clean k.is_open k.faults k.book k.may_leave l.fn.archive.keeper l.archive.keeper }
