-- So far the archive was only read, and a keeper that is clean is open. The writer has the pieces before this one.
use Rattle.std.proofs.Common.{ℕ, List, string_bytes}
use Rattle.std.specs.Io.KnownBytes.{Appends}
use Rattle.queue.specs.Steps.{Reads}
use Rattle.desk.proofs.FileLemmas.{IsSofar}
use Rattle.desk.proofs.file.send_pieces.Given as goal

abbrev pub invariant-loop-number : goal.invariant-loop-number
invariant-loop-number g l =
    let k = g.K.Keeper in
    let held = g.W.Write.contents in
    record {
      reads : Reads k l.fn.archive.keeper l.archive.keeper;
      served : k.is_clean l.archive.keeper → k.is_open l.archive.keeper;
      bytes : List ℕ;
      taken : Appends (held l.fn.writer) (held l.writer) bytes;
      sofar : IsSofar k l.fn.archive.keeper (string_bytes l.file.path) l.archive.keeper l.file.first.size l.number bytes;
    }
