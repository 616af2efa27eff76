use Rattle.std.proofs.Common.{◌≡◌, take}
use Rattle.old_book.specs.Settling.{unjudged_uploads}
use Rattle.old_book.proofs.settling.unjudged.Given as goal

-- the uploads so far
abbrev pub invariant-loop-row : goal.invariant-loop-row
invariant-loop-row l = l.all.items ≡ unjudged_uploads (take l.row-index l.uploads)
