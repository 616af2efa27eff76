use Rattle.std.proofs.Common.{◌≡◌, ◌++◌, take}
use Rattle.suites.proofs.NumberedFiles.{all_numbered}
use Rattle.suites.proofs.admission.push_references.Given as goal

abbrev pub invariant-loop-index : goal.invariant-loop-index
invariant-loop-index l = l.references.items ≡ l.initial.references.items ++ all_numbered l.key (take l.index l.file-items)
