use Rattle.std.proofs.Common.{take}
use Rattle.tables_audit.specs.Items.{AreShown}
use Rattle.tables_audit.proofs.items.shelves_of.Given as goal

-- the shelves show the rows so far
abbrev pub invariant-loop-id : goal.invariant-loop-id
invariant-loop-id l = AreShown l.suites l.refs.all.now (take l.id-index l.items) l.shelves
