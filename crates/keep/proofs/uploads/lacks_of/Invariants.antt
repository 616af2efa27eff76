use Rattle.std.proofs.Common.{◌≡◌, not, filter, map}
use Rattle.book.specs.Book.{is_there, lack_of}
use Rattle.keep.specs.Scan.{counted, entry_at}
use Rattle.keep.proofs.uploads.lacks_of.Given as goal

abbrev pub invariant-loop-entry : goal.invariant-loop-entry
invariant-loop-entry l =
    l.lacks.items ≡ map (lack_of l.arrivals) (filter (λ e. not (is_there (counted l.counting l.arrivals) e)) (map entry_at l.yielded))
