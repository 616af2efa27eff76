use Rattle.std.proofs.Common.{◌≡◌, map}
use Rattle.tables_meaning.specs.Shown.{file_in}
use Rattle.tables_audit.proofs.shelves.files_in.Given as goal

-- the files so far
abbrev pub invariant-loop-file : goal.invariant-loop-file
invariant-loop-file l = l.files.items ≡ map file_in l.yielded
