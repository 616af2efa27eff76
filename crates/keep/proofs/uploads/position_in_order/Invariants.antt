use Rattle.std.proofs.Common.{◌≡◌, ◌++◌, map, take, drop}
use Rattle.book.specs.Book.{put_in_order}
use Rattle.keep.specs.Scan.{candidate_view}
use Rattle.keep.proofs.uploads.position_in_order.Given as goal

abbrev pub invariant-loop-index : goal.invariant-loop-index
invariant-loop-index l =
    put_in_order (candidate_view l.other) (map candidate_view l.found)
    ≡ map candidate_view (take l.index l.found) ++ put_in_order (candidate_view l.other) (map candidate_view (drop l.index l.found))
