use Rattle.std.proofs.Common.{◌≡◌, ◌+◌, drop}
use Rattle.tables_audit.specs.Items.{are_numbered_from}
use Rattle.tables_audit.proofs.items.are_numbered.Given as goal

-- what has not been looked at decides
abbrev pub invariant-loop-index : goal.invariant-loop-index
invariant-loop-index l = are_numbered_from (l.index + 1) (drop l.index l.refs) ≡ are_numbered_from 1 l.refs
