use Rattle.std.proofs.Common.{◌↔◌, drop}
use Rattle.std.specs.Prelude.{Contains}
use Rattle.tables_audit.specs.TextRows.{texts_in}
use Rattle.tables_audit.proofs.text_rows.is_in_rows.Given as goal

-- the text is among the rows if it is among those that are left
abbrev pub invariant-loop-row : goal.invariant-loop-row
invariant-loop-row l = Contains (texts_in l.rows) (l.path, l.body) ↔ Contains (texts_in (drop l.row-index l.rows)) (l.path, l.body)
