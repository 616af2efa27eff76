use Rattle.std.proofs.Common.{◌≡◌, map}
use Rattle.std.specs.Map.Iter.{deref_pair}
use Rattle.suites.specs.PoolChange.{files_where, has_no_use}
use Rattle.suites.proofs.pool.removed_files.Given as goal

abbrev pub invariant-loop-path : goal.invariant-loop-path
invariant-loop-path l = l.files.items ≡ files_where (λ path file. has_no_use l.shelves l.put path file.references) (map deref_pair l.yielded)
