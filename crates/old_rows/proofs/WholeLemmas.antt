-- What is shown of each table is shown of all.
use Rattle.old_rows.specs.Layouts.{Asked, AreShown}
use Rattle.old_rows.specs.Pairs.{ShownPairs, tables_shown}
use Rattle.old_rows.specs.Shown.{IsShown}
use Rattle.sqlite.specs.Effect.{Database}
use Rattle.tables.specs.Rows.{meta_cells, piece_cells, want_cells, ref_cells, file_cells, text_cells, date_cells}
use Rattle.tables_read.specs.Layouts.{arrival_seen, body_seen, item_seen, upload_seen}

module _ (asked : Asked) (db : Database) (rows : ShownPairs) where
  abbrev IsEach : Type 0
  IsEach =
      IsShown meta_cells asked.meta db rows.0.items
      × (IsShown body_seen asked.bodies db rows.1.0.items
      × (IsShown piece_cells asked.pieces db rows.1.1.0.items
      × (IsShown arrival_seen asked.arrivals db rows.1.1.1.0.items
      × (IsShown upload_seen asked.uploads db rows.1.1.1.1.0.items
      × (IsShown want_cells asked.wants db rows.1.1.1.1.1.0.items
      × (IsShown item_seen asked.items db rows.1.1.1.1.1.1.0.items
      × (IsShown ref_cells asked.refs db rows.1.1.1.1.1.1.1.0.items
      × (IsShown file_cells asked.files db rows.1.1.1.1.1.1.1.1.0.items
      × (IsShown text_cells asked.texts db rows.1.1.1.1.1.1.1.1.1.0.items
      × IsShown date_cells asked.dates db rows.1.1.1.1.1.1.1.1.1.1.items)))))))))

  pub all_shown : IsEach → AreShown asked db (tables_shown rows)
  all_shown h = record { meta = h.0; bodies = h.1.0; pieces = h.1.1.0; arrivals = h.1.1.1.0; uploads = h.1.1.1.1.0; wants = h.1.1.1.1.1.0; items = h.1.1.1.1.1.1.0; refs = h.1.1.1.1.1.1.1.0; files = h.1.1.1.1.1.1.1.1.0; texts = h.1.1.1.1.1.1.1.1.1.0; dates = h.1.1.1.1.1.1.1.1.1.1 }
