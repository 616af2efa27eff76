use Rattle.std.proofs.Common.{◌≡◌, drop, find}
use Rattle.keep.specs.Scan.{is_at}
use Rattle.keep.proofs.pool.file_at.Given as goal

abbrev pub invariant-loop-file : goal.invariant-loop-file
invariant-loop-file l = find (is_at l.path) (drop l.file-index l.files) ≡ find (is_at l.path) l.files
