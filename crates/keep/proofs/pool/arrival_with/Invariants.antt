use Rattle.std.proofs.Common.{◌≡◌, drop, find}
use Rattle.sums.specs.Prints.{print, same_print}
use Rattle.keep.proofs.pool.arrival_with.Given as goal

abbrev pub invariant-loop-arrival : goal.invariant-loop-arrival
invariant-loop-arrival l =
    find (λ a. same_print (print a.body) l.print) (drop l.arrival-index l.arrivals) ≡ find (λ a. same_print (print a.body) l.print) l.arrivals
