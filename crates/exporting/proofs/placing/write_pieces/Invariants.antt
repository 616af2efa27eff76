-- So far the archive was only read, and a keeper that is clean is open. The writer has the pieces before this one.
use Rattle.std.proofs.Common.{◌*◌, [], take, unwrap_or}
use Rattle.std.specs.Io.KnownBytes.{Appends}
use Rattle.book.specs.Keeping.{Reads}
use Rattle.exporting.proofs.placing.write_pieces.Given as goal

abbrev pub invariant-loop-number : goal.invariant-loop-number
invariant-loop-number g l =
    let k = g.K.Keeper in
    let held = g.W.Write.contents in
    record {
      reads : Reads k.is_clean k.is_open k.faults k.book k.may_leave l.fn.archive.keeper l.archive.keeper;
      served : k.is_clean l.archive.keeper → k.is_open l.archive.keeper;
      written : k.is_clean l.archive.keeper
          → Appends (held l.fn.out) (held l.out) (take (65536 * l.number) (unwrap_or ((k.book l.fn.archive.keeper).files l.path) []));
    }
