use Rattle.std.proofs.Common.{◌≡◌, drop}
use Rattle.std.specs.List.{list_all}
use Rattle.book.specs.Book.{is_there}
use Rattle.keep.specs.Scan.{counted}
use Rattle.keep.proofs.uploads.are_there.Given as goal

abbrev pub invariant-loop-entry : goal.invariant-loop-entry
invariant-loop-entry l =
    list_all (is_there (counted l.counting l.arrivals)) (drop l.entry-index l.entries) ≡ list_all (is_there (counted l.counting l.arrivals)) l.entries
