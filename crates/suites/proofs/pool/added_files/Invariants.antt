use Rattle.std.proofs.Common.{◌≡◌, map}
use Rattle.std.specs.Map.Iter.{deref_pair}
use Rattle.suites.specs.PoolChange.{files_where, is_new}
use Rattle.suites.proofs.pool.added_files.Given as goal

abbrev pub invariant-loop-path : goal.invariant-loop-path
invariant-loop-path l = l.files.items ≡ files_where (is_new l.shelves) (map deref_pair l.yielded)
