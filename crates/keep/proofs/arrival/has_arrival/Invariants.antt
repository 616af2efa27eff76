use Rattle.std.proofs.Common.{◌≡◌, drop}
use Rattle.std.specs.List.{list_any}
use Rattle.book.specs.Book.{is_arrival_of}
use Rattle.keep.proofs.arrival.has_arrival.Given as goal

abbrev pub invariant-loop-arrival : goal.invariant-loop-arrival
invariant-loop-arrival l =
    list_any (is_arrival_of l.name l.print) (drop l.arrival-index l.arrivals) ≡ list_any (is_arrival_of l.name l.print) l.arrivals
