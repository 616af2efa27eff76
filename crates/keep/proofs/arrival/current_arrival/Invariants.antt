use Rattle.std.proofs.Common.{◌≡◌, drop, find}
use Rattle.book.specs.Book.{is_arrival_of}
use Rattle.keep.specs.Scan.{counted}
use Rattle.keep.proofs.arrival.current_arrival.Given as goal

abbrev pub invariant-loop-arrival : goal.invariant-loop-arrival
invariant-loop-arrival l =
    find (is_arrival_of l.name l.print) (counted l.counting (drop l.arrival-index l.arrivals)) ≡ find (is_arrival_of l.name l.print) (counted l.counting l.arrivals)
