use Rattle.std.proofs.Common.{map}
use Rattle.suites.specs.Pool.{files_of}
use Rattle.keep.specs.Scan.{PoolHas}
use Rattle.keep.proofs.pool.pool_bodies.Given as goal

abbrev pub invariant-loop-item : goal.invariant-loop-item
invariant-loop-item l = PoolHas l.arrivals l.files l.bodies.items (files_of (map (λ e. e.1.now) l.yielded))
