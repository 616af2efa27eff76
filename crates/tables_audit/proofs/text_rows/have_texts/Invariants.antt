use Rattle.std.proofs.Common.{◌↔◌, map, drop}
use Rattle.std.specs.Prelude.{All, Contains}
use Rattle.tables_meaning.specs.Founding.{from_root}
use Rattle.tables_matching.specs.Rows.{text_in}
use Rattle.tables_audit.specs.TextRows.{texts_in}
use Rattle.tables_audit.proofs.text_rows.have_texts.Given as goal

-- all texts are among the rows if those that are left are
abbrev pub invariant-loop-text : goal.invariant-loop-text
invariant-loop-text l =
    All (Contains (texts_in l.rows)) (map (from_root l.suite) (map text_in l.texts))
    ↔ All (Contains (texts_in l.rows)) (map (from_root l.suite) (map text_in (drop l.text-index l.texts)))
