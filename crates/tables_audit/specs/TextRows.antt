-- Rows of texts as paths with their texts, and prints of these.
use Rattle.std.specs.Prelude.{◌≡◌, ℕ, List, map, All, Contains}
use Rattle.sums.specs.Prints.{print as print_of}
use Rattle.rules.specs.declared.suite.Suite.{Suite}
use Rattle.tables.specs.Rows.{Numbered, rows_of}
use Rattle.tables.specs.declared.rows.TextRow.{TextRow}
use Rattle.tables_matching.specs.Rows.{text_in}
use Rattle.indices.specs.Indices.{PathText, suite_path}
use Rattle.indices.specs.declared.index.Index.{Index}
use Rattle.tables_audit.specs.declared.text_print.TextPrint.{TextPrint}

-- the paths and the texts of rows with their rowids
abbrev pub texts_in : Numbered TextRow → List PathText
texts_in rows = map text_in (rows_of rows)

-- One of these texts stands at the path, and the print is that text's.
pub record IsPrintAmong (texts : List PathText) (p : TextPrint) : Type 0 where
  pub text : List ℕ
  pub among : Contains texts (p.path, text)
  pub print : p.print ≡ print_of text

-- Each of the prints is that of one of these texts, at its path.
abbrev pub ArePrintsOf : List PathText → List TextPrint → Type 0
ArePrintsOf texts prints = All (IsPrintAmong texts) prints

-- the print of an index in the folder of a suite, at its whole path
abbrev pub print_from_root : Suite → Index → TextPrint
print_from_root s i = record { path = suite_path s i.path; print = i.print }
