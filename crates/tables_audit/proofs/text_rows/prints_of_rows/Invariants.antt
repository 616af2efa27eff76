use Rattle.std.proofs.Common.{◌≡◌, ◌≤◌, ◌↔◌, IsPermutation, drop, length}
use Rattle.std.specs.List.{zip}
use Rattle.std.specs.Prelude.{All, Contains}
use Rattle.indices.specs.Indices.{all_texts, texts_from}
use Rattle.tables_audit.specs.TextRows.{ArePrintsOf, texts_in}
use Rattle.tables_audit.proofs.text_rows.prints_of_rows.Given as goal

-- the rows are all texts exactly if those of the other suites are among them, as many as are left; the prints so far are of texts that rows have
abbrev pub invariant-loop-position : goal.invariant-loop-position
invariant-loop-position l = record {
  few : l.left ≤ length l.rows;
  are : IsPermutation (texts_in l.rows) (all_texts l.config l.shelves l.dates)
      ↔ (All (Contains (texts_in l.rows)) (texts_from l.shelves l.position (drop l.position (zip l.config.suites l.dates)))
      × (l.left ≡ length (texts_from l.shelves l.position (drop l.position (zip l.config.suites l.dates)))));
  known : ArePrintsOf (texts_in l.rows) l.prints.items;
}
