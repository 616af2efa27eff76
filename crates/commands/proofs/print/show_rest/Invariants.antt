-- So far the archive was only read.
use Rattle.book.specs.Keeping.{Reads}
use Rattle.commands.proofs.print.show_rest.Given as goal

abbrev pub invariant-loop-number : goal.invariant-loop-number
invariant-loop-number g l =
    let k = g.K.Keeper in
    record { reads : Reads k.is_clean k.is_open k.faults k.book k.may_leave l.fn.archive.keeper l.archive.keeper }
