use Rattle.std.proofs.Common.{◌≡◌, map, take}
use Rattle.book.specs.Book.{arrived_file}
use Rattle.keep.proofs.arrived.arrived_files.Given as goal

abbrev pub invariant-loop-arrival : goal.invariant-loop-arrival
invariant-loop-arrival l = l.files.items ≡ map arrived_file (take l.arrival-index l.arrivals)
