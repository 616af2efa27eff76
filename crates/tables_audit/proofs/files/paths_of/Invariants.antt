use Rattle.std.proofs.Common.{◌≡◌, ℕ, List, is_some, take}
use Rattle.std.specs.BTreeMap.{get_by_text}
use Rattle.tables_audit.specs.Files.{is_path}
use Rattle.tables_audit.proofs.files.paths_of.Given as goal

-- the paths so far
abbrev pub invariant-loop-file : goal.invariant-loop-file
invariant-loop-file l = (path : List ℕ) → is_some (get_by_text l.paths path) ≡ is_path (take l.file-index l.files) path
