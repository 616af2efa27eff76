use Rattle.std.proofs.Common.{take}
use Rattle.std.specs.List.{All}
use Rattle.suites.specs.Shelves.{pool}
use Rattle.tables_audit.specs.Files.{HasPrint}
use Rattle.tables_audit.proofs.files.have_prints.Given as goal

-- the files so far have the pool's prints
abbrev pub invariant-loop-file : goal.invariant-loop-file
invariant-loop-file l = All (HasPrint (pool l.shelves) l.bodies.all.now) (take l.file-index l.files)
