use Rattle.std.proofs.Common.{◌≡◌, ℕ, List, take, fold}
use Rattle.std.specs.BTreeMap.{get_by_text}
use Rattle.suites.specs.Applying.{without_file}
use Rattle.suites.proofs.shelves.drop_files.Given as goal

abbrev pub invariant-loop-file : goal.invariant-loop-file
invariant-loop-file l = (path : List ℕ) → get_by_text l.files path ≡ fold (without_file path) (get_by_text l.initial.files path) (take l.file-index l.dropped)
