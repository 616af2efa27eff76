use Rattle.std.proofs.Common.{◌≡◌, ◌++◌}
use Rattle.std.specs.String.{string_bytes}
use Rattle.suites.proofs.MapEntries.{read}
use Rattle.suites.proofs.shelves.copied_files.Given as goal

abbrev pub invariant-loop-path : goal.invariant-loop-path
invariant-loop-path l = read string_bytes l.copy.entries ++ read string_bytes l.path-iterator ≡ read string_bytes l.fn.files.entries
