-- The rows that queries show of all tables, in pairs: those of one table, and those of the tables after it.
use Rattle.tables.specs.Rows.{Tables}
use Rattle.tables.specs.declared.rows.ArrivalRow.{ArrivalRow}
use Rattle.tables.specs.declared.rows.BodyRow.{BodyRow}
use Rattle.tables.specs.declared.rows.Date.{Date}
use Rattle.tables.specs.declared.rows.File.{File}
use Rattle.tables.specs.declared.rows.TextRow.{TextRow}
use Rattle.tables.specs.declared.rows.ItemRow.{ItemRow}
use Rattle.tables.specs.declared.rows.Meta.{Meta}
use Rattle.tables.specs.declared.rows.Piece.{Piece}
use Rattle.tables.specs.declared.rows.Ref.{Ref}
use Rattle.tables.specs.declared.rows.UploadRow.{UploadRow}
use Rattle.tables.specs.declared.rows.Want.{Want}
use Rattle.tables_read.specs.Pairs.{Held}

abbrev pub ShownPairs : Type 0
ShownPairs = Held Meta × (Held BodyRow × (Held Piece × (Held ArrivalRow × (Held UploadRow × (Held Want × (Held ItemRow × (Held Ref × (Held File × (Held TextRow × (Held Date))))))))))

-- the tables with exactly these rows
abbrev pub tables_shown : ShownPairs → Tables
tables_shown rows = record {
  meta = rows.0.items;
  bodies = rows.1.0.items;
  pieces = rows.1.1.0.items;
  arrivals = rows.1.1.1.0.items;
  uploads = rows.1.1.1.1.0.items;
  wants = rows.1.1.1.1.1.0.items;
  items = rows.1.1.1.1.1.1.0.items;
  refs = rows.1.1.1.1.1.1.1.0.items;
  files = rows.1.1.1.1.1.1.1.1.0.items;
  texts = rows.1.1.1.1.1.1.1.1.1.0.items;
  dates = rows.1.1.1.1.1.1.1.1.1.1.items;
}
