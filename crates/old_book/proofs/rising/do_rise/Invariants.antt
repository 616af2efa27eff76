use Rattle.std.proofs.Common.{◌≡◌, None, drop}
use Rattle.old_book.specs.Rising.{rise_behind}
use Rattle.old_book.proofs.rising.do_rise.Given as goal

-- what is left rises after the last
abbrev pub invariant-loop-row : goal.invariant-loop-row
invariant-loop-row g l = rise_behind l.last (drop l.row-index l.rows) ≡ rise_behind None l.rows
