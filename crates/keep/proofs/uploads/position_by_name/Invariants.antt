use Rattle.std.proofs.Common.{◌≡◌, ◌++◌, map, take, drop}
use Rattle.book.specs.Book.{put_by_name}
use Rattle.keep.specs.Scan.{entry_at}
use Rattle.keep.proofs.uploads.position_by_name.Given as goal

abbrev pub invariant-loop-index : goal.invariant-loop-index
invariant-loop-index l =
    put_by_name l.other (map entry_at l.found) ≡ map entry_at (take l.index l.found) ++ put_by_name l.other (map entry_at (drop l.index l.found))
