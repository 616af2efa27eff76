use Rattle.std.proofs.Common.{◌≡◌, ◌∷◌, map, take}
use Rattle.suites.specs.Items.{file_of}
use Rattle.suites.specs.Upload.{file_at}
use Rattle.suites.proofs.items.source_files.Given as goal

abbrev pub invariant-loop-entry : goal.invariant-loop-entry
invariant-loop-entry l =
    l.files.items ≡ map file_of (map (file_at (λ e. e.print) l.changes l.component) (l.dsc ∷ take l.entry-index l.entries))
