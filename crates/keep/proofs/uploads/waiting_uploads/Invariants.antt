use Rattle.std.proofs.Common.{◌≡◌, map, take}
use Rattle.book.specs.Book.{waiting_of}
use Rattle.keep.specs.Scan.{candidate_view, counted}
use Rattle.keep.proofs.uploads.waiting_uploads.Given as goal

abbrev pub invariant-loop-candidate : goal.invariant-loop-candidate
invariant-loop-candidate l =
    l.waiting.items ≡ map (waiting_of l.arrivals (counted l.counting l.arrivals)) (map candidate_view (take l.candidate-index l.candidate-items))
