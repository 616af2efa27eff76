use Rattle.std.proofs.Common.{◌≡◌, map, filter}
use Rattle.book.specs.Book.{is_complete, upload_of}
use Rattle.keep.specs.Scan.{candidate_view, counted}
use Rattle.keep.proofs.uploads.complete_uploads.Given as goal

abbrev pub invariant-loop-candidate : goal.invariant-loop-candidate
invariant-loop-candidate l =
    l.uploads.items ≡ map (upload_of (counted l.counting l.arrivals)) (filter (is_complete (counted l.counting l.arrivals)) (map candidate_view l.yielded))
