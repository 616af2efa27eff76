use Rattle.std.proofs.Common.{◌≡◌, ◌∷◌, map, take}
use Rattle.sums.specs.Prints.{print as print_in}
use Rattle.suites.specs.Told.{listed_file, path_in}
use Rattle.suites.specs.Verdict.{dsc_file}
use Rattle.tables_audit.proofs.as_recorded.source.files_of.Given as goal

abbrev pub invariant-loop-entry : goal.invariant-loop-entry
invariant-loop-entry l = l.files.items ≡ record { path = path_in l.item (dsc_file l.dsc); print = print_in l.item.paragraph } ∷ map (listed_file l.item) (take l.entry-index l.dsc.entries)
