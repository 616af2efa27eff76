use Rattle.std.proofs.Common.{◌≡◌, ◌++◌, map, take}
use Rattle.figures.proofs.kept.push_files.Given as goal

abbrev pub invariant-loop-file : goal.invariant-loop-file
invariant-loop-file l = l.prints.items ≡ l.fn.prints.items ++ map (λ f. f.print) (take l.file-index l.files)
