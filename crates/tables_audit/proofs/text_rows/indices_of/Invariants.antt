use Rattle.std.proofs.Common.{◌≡◌, map, take}
use Rattle.indices.specs.Release.{index_of}
use Rattle.tables_matching.specs.Rows.{text_in}
use Rattle.tables_audit.proofs.text_rows.indices_of.Given as goal

-- the indices of the texts so far
abbrev pub invariant-loop-entry : goal.invariant-loop-entry
invariant-loop-entry l = l.indices.items ≡ map index_of (map text_in (take l.entry-index l.entries))
