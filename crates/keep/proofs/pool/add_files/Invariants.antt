use Rattle.std.proofs.Common.{ℕ, List, ◌++◌, map, take}
use Rattle.sums.specs.declared.print.Print.{Print}
use Rattle.suites.specs.Pool.{pair_of}
use Rattle.keep.specs.Scan.{PoolHas}
use Rattle.keep.proofs.pool.add_files.Given as goal

abbrev pub invariant-loop-file : goal.invariant-loop-file
invariant-loop-file l = (done : List (List ℕ × Print)) → PoolHas l.arrivals l.files l.fn.bodies.items done
    → PoolHas l.arrivals l.files l.bodies.items (done ++ map pair_of (take l.file-index l.added))
