use Rattle.std.proofs.Common.{◌≡◌, ◌++◌, take, string_bytes}
use Rattle.std.specs.List.{flat_map}
use Rattle.pages.specs.SuitePage.{file_text}
use Rattle.pages.proofs.suite.push_files.Given as goal

abbrev pub invariant-loop-file : goal.invariant-loop-file
invariant-loop-file l = string_bytes l.out ≡ string_bytes l.fn.out ++ flat_map file_text (take l.file-index l.files)
