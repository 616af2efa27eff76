use Rattle.std.proofs.Common.{◌≡◌, take}
use Rattle.old_book.specs.Settling.{judged_ids}
use Rattle.old_book.proofs.settling.judged_among.Given as goal

-- the numbers so far
abbrev pub invariant-loop-row : goal.invariant-loop-row
invariant-loop-row l = l.ids.items ≡ judged_ids (take l.row-index l.uploads)
