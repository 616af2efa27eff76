use Rattle.std.proofs.Common.{◌≡◌, drop}
use Rattle.tables_audit.specs.Lookups.{rise_from}
use Rattle.tables_audit.proofs.keyed.do_rise.Given as goal

-- what has not been looked at decides
abbrev pub invariant-loop-row : goal.invariant-loop-row
invariant-loop-row g l = rise_from g.T.Keyed.key_of l.last (drop l.row-index l.rows) ≡ rise_from g.T.Keyed.key_of 0 l.rows
