-- So far the archive was only read.
use Rattle.book.specs.Keeping.{Reads}
use Rattle.exporting.proofs.making.write_texts.Given as goal

abbrev pub invariant-loop-path : goal.invariant-loop-path
invariant-loop-path g l =
    let k = g.K.Keeper in
    record { reads : Reads k.is_clean k.is_open k.faults k.book k.may_leave l.fn.archive.keeper l.archive.keeper }
