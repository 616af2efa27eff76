use Rattle.std.proofs.Common.{◌≡◌, drop, find}
use Rattle.book.specs.Book.{is_arrival_of}
use Rattle.keep.proofs.arrival.arrival_of.Given as goal

abbrev pub invariant-loop-arrival : goal.invariant-loop-arrival
invariant-loop-arrival l =
    find (is_arrival_of l.name l.print) (drop l.arrival-index l.arrivals) ≡ find (is_arrival_of l.name l.print) l.arrivals
