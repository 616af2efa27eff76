use Rattle.std.proofs.Common.{◌≡◌, ℕ, List, take, fold}
use Rattle.std.specs.BTreeMap.{get_by_text}
use Rattle.suites.specs.Applying.{with_file}
use Rattle.suites.proofs.shelves.add_files.Given as goal

abbrev pub invariant-loop-index : goal.invariant-loop-index
invariant-loop-index l = (path : List ℕ) → get_by_text l.files path ≡ fold (with_file path) (get_by_text l.initial.files path) (take l.index l.put)
