-- If a statement changes one table, the others hold what they held.
use Rattle.std.proofs.Common.{◌≡◌, ◌≢◌, ℕ, List, map, ap, ◌∙◌, arith}
use Rattle.std.specs.List.{AllByRecursion}
use Rattle.sqlite.specs.Order.{Row}
use Rattle.sqlite.specs.Tree.{Trees}
use Rattle.tables.specs.Schema.{archive_schema}
use Rattle.tables.specs.Rows.{Numbered, HasRows, Tables, HoldsRows, full_body, full_upload, meta_cells, body_cells, piece_cells, arrival_cells, upload_cells, want_cells, item_cells, ref_cells, file_cells, text_cells, date_cells}
use Rattle.tables.specs.declared.rows.Meta.{Meta}
use Rattle.tables.specs.declared.rows.BodyRow.{BodyRow}
use Rattle.tables.specs.declared.rows.Piece.{Piece}
use Rattle.tables.specs.declared.rows.ArrivalRow.{ArrivalRow}
use Rattle.tables.specs.declared.rows.UploadRow.{UploadRow}
use Rattle.tables.specs.declared.rows.Want.{Want}
use Rattle.tables.specs.declared.rows.ItemRow.{ItemRow}
use Rattle.tables.specs.declared.rows.Ref.{Ref}
use Rattle.tables.specs.declared.rows.File.{File}
use Rattle.tables.specs.declared.rows.TextRow.{TextRow}
use Rattle.tables.specs.declared.rows.Date.{Date}

-- each table but the one of this tree has the rows that it had
abbrev pub KeepsOthers : ℕ → Trees → Trees → Type 0
KeepsOthers tree old new = AllByRecursion (λ t. t.tree ≢ tree → new t.tree ≡ old t.tree) archive_schema.tables

kept : {X : Type 0} (cells : X → Row) (rows : Numbered X) {old new : List Row} → HasRows cells rows old → new ≡ old → HasRows cells rows new
kept cells rows h same = record { are = same ∙ h.are; rise = h.rise }

module _ (old new : Trees) (t : Tables) (was : HoldsRows old t) where
  -- each table has the rows that it had
  pub with_all : AllByRecursion (λ t. new t.tree ≡ old t.tree) archive_schema.tables → HoldsRows new t
  with_all same = record {
    meta = kept meta_cells t.meta was.meta same.0;
    bodies = kept body_cells t.bodies was.bodies (ap (map full_body) same.1.0);
    pieces = kept piece_cells t.pieces was.pieces same.1.1.0;
    arrivals = kept arrival_cells t.arrivals was.arrivals same.1.1.1.0;
    uploads = kept upload_cells t.uploads was.uploads (ap (map full_upload) same.1.1.1.1.0);
    wants = kept want_cells t.wants was.wants same.1.1.1.1.1.0;
    items = kept item_cells t.items was.items same.1.1.1.1.1.1.0;
    refs = kept ref_cells t.refs was.refs same.1.1.1.1.1.1.1.0;
    files = kept file_cells t.files was.files same.1.1.1.1.1.1.1.1.0;
    texts = kept text_cells t.texts was.texts same.1.1.1.1.1.1.1.1.1.0;
    dates = kept date_cells t.dates was.dates same.1.1.1.1.1.1.1.1.1.1.0;
  }

  pub with_meta : (rows : Numbered Meta) → HasRows meta_cells rows (new 0) → KeepsOthers 0 old new → HoldsRows new (record t { meta = rows })
  with_meta rows now others = record {
    meta = now;
    bodies = kept body_cells t.bodies was.bodies (ap (map full_body) (others.1.0 (omega arith)));
    pieces = kept piece_cells t.pieces was.pieces (others.1.1.0 (omega arith));
    arrivals = kept arrival_cells t.arrivals was.arrivals (others.1.1.1.0 (omega arith));
    uploads = kept upload_cells t.uploads was.uploads (ap (map full_upload) (others.1.1.1.1.0 (omega arith)));
    wants = kept want_cells t.wants was.wants (others.1.1.1.1.1.0 (omega arith));
    items = kept item_cells t.items was.items (others.1.1.1.1.1.1.0 (omega arith));
    refs = kept ref_cells t.refs was.refs (others.1.1.1.1.1.1.1.0 (omega arith));
    files = kept file_cells t.files was.files (others.1.1.1.1.1.1.1.1.0 (omega arith));
    texts = kept text_cells t.texts was.texts (others.1.1.1.1.1.1.1.1.1.0 (omega arith));
    dates = kept date_cells t.dates was.dates (others.1.1.1.1.1.1.1.1.1.1.0 (omega arith));
  }

  pub with_bodies : (rows : Numbered BodyRow) → HasRows body_cells rows (map full_body (new 1)) → KeepsOthers 1 old new → HoldsRows new (record t { bodies = rows })
  with_bodies rows now others = record {
    meta = kept meta_cells t.meta was.meta (others.0 (omega arith));
    bodies = now;
    pieces = kept piece_cells t.pieces was.pieces (others.1.1.0 (omega arith));
    arrivals = kept arrival_cells t.arrivals was.arrivals (others.1.1.1.0 (omega arith));
    uploads = kept upload_cells t.uploads was.uploads (ap (map full_upload) (others.1.1.1.1.0 (omega arith)));
    wants = kept want_cells t.wants was.wants (others.1.1.1.1.1.0 (omega arith));
    items = kept item_cells t.items was.items (others.1.1.1.1.1.1.0 (omega arith));
    refs = kept ref_cells t.refs was.refs (others.1.1.1.1.1.1.1.0 (omega arith));
    files = kept file_cells t.files was.files (others.1.1.1.1.1.1.1.1.0 (omega arith));
    texts = kept text_cells t.texts was.texts (others.1.1.1.1.1.1.1.1.1.0 (omega arith));
    dates = kept date_cells t.dates was.dates (others.1.1.1.1.1.1.1.1.1.1.0 (omega arith));
  }

  pub with_pieces : (rows : Numbered Piece) → HasRows piece_cells rows (new 3) → KeepsOthers 3 old new → HoldsRows new (record t { pieces = rows })
  with_pieces rows now others = record {
    meta = kept meta_cells t.meta was.meta (others.0 (omega arith));
    bodies = kept body_cells t.bodies was.bodies (ap (map full_body) (others.1.0 (omega arith)));
    pieces = now;
    arrivals = kept arrival_cells t.arrivals was.arrivals (others.1.1.1.0 (omega arith));
    uploads = kept upload_cells t.uploads was.uploads (ap (map full_upload) (others.1.1.1.1.0 (omega arith)));
    wants = kept want_cells t.wants was.wants (others.1.1.1.1.1.0 (omega arith));
    items = kept item_cells t.items was.items (others.1.1.1.1.1.1.0 (omega arith));
    refs = kept ref_cells t.refs was.refs (others.1.1.1.1.1.1.1.0 (omega arith));
    files = kept file_cells t.files was.files (others.1.1.1.1.1.1.1.1.0 (omega arith));
    texts = kept text_cells t.texts was.texts (others.1.1.1.1.1.1.1.1.1.0 (omega arith));
    dates = kept date_cells t.dates was.dates (others.1.1.1.1.1.1.1.1.1.1.0 (omega arith));
  }

  pub with_arrivals : (rows : Numbered ArrivalRow) → HasRows arrival_cells rows (new 5) → KeepsOthers 5 old new → HoldsRows new (record t { arrivals = rows })
  with_arrivals rows now others = record {
    meta = kept meta_cells t.meta was.meta (others.0 (omega arith));
    bodies = kept body_cells t.bodies was.bodies (ap (map full_body) (others.1.0 (omega arith)));
    pieces = kept piece_cells t.pieces was.pieces (others.1.1.0 (omega arith));
    arrivals = now;
    uploads = kept upload_cells t.uploads was.uploads (ap (map full_upload) (others.1.1.1.1.0 (omega arith)));
    wants = kept want_cells t.wants was.wants (others.1.1.1.1.1.0 (omega arith));
    items = kept item_cells t.items was.items (others.1.1.1.1.1.1.0 (omega arith));
    refs = kept ref_cells t.refs was.refs (others.1.1.1.1.1.1.1.0 (omega arith));
    files = kept file_cells t.files was.files (others.1.1.1.1.1.1.1.1.0 (omega arith));
    texts = kept text_cells t.texts was.texts (others.1.1.1.1.1.1.1.1.1.0 (omega arith));
    dates = kept date_cells t.dates was.dates (others.1.1.1.1.1.1.1.1.1.1.0 (omega arith));
  }

  pub with_uploads : (rows : Numbered UploadRow) → HasRows upload_cells rows (map full_upload (new 7)) → KeepsOthers 7 old new → HoldsRows new (record t { uploads = rows })
  with_uploads rows now others = record {
    meta = kept meta_cells t.meta was.meta (others.0 (omega arith));
    bodies = kept body_cells t.bodies was.bodies (ap (map full_body) (others.1.0 (omega arith)));
    pieces = kept piece_cells t.pieces was.pieces (others.1.1.0 (omega arith));
    arrivals = kept arrival_cells t.arrivals was.arrivals (others.1.1.1.0 (omega arith));
    uploads = now;
    wants = kept want_cells t.wants was.wants (others.1.1.1.1.1.0 (omega arith));
    items = kept item_cells t.items was.items (others.1.1.1.1.1.1.0 (omega arith));
    refs = kept ref_cells t.refs was.refs (others.1.1.1.1.1.1.1.0 (omega arith));
    files = kept file_cells t.files was.files (others.1.1.1.1.1.1.1.1.0 (omega arith));
    texts = kept text_cells t.texts was.texts (others.1.1.1.1.1.1.1.1.1.0 (omega arith));
    dates = kept date_cells t.dates was.dates (others.1.1.1.1.1.1.1.1.1.1.0 (omega arith));
  }

  pub with_wants : (rows : Numbered Want) → HasRows want_cells rows (new 10) → KeepsOthers 10 old new → HoldsRows new (record t { wants = rows })
  with_wants rows now others = record {
    meta = kept meta_cells t.meta was.meta (others.0 (omega arith));
    bodies = kept body_cells t.bodies was.bodies (ap (map full_body) (others.1.0 (omega arith)));
    pieces = kept piece_cells t.pieces was.pieces (others.1.1.0 (omega arith));
    arrivals = kept arrival_cells t.arrivals was.arrivals (others.1.1.1.0 (omega arith));
    uploads = kept upload_cells t.uploads was.uploads (ap (map full_upload) (others.1.1.1.1.0 (omega arith)));
    wants = now;
    items = kept item_cells t.items was.items (others.1.1.1.1.1.1.0 (omega arith));
    refs = kept ref_cells t.refs was.refs (others.1.1.1.1.1.1.1.0 (omega arith));
    files = kept file_cells t.files was.files (others.1.1.1.1.1.1.1.1.0 (omega arith));
    texts = kept text_cells t.texts was.texts (others.1.1.1.1.1.1.1.1.1.0 (omega arith));
    dates = kept date_cells t.dates was.dates (others.1.1.1.1.1.1.1.1.1.1.0 (omega arith));
  }

  pub with_items : (rows : Numbered ItemRow) → HasRows item_cells rows (new 13) → KeepsOthers 13 old new → HoldsRows new (record t { items = rows })
  with_items rows now others = record {
    meta = kept meta_cells t.meta was.meta (others.0 (omega arith));
    bodies = kept body_cells t.bodies was.bodies (ap (map full_body) (others.1.0 (omega arith)));
    pieces = kept piece_cells t.pieces was.pieces (others.1.1.0 (omega arith));
    arrivals = kept arrival_cells t.arrivals was.arrivals (others.1.1.1.0 (omega arith));
    uploads = kept upload_cells t.uploads was.uploads (ap (map full_upload) (others.1.1.1.1.0 (omega arith)));
    wants = kept want_cells t.wants was.wants (others.1.1.1.1.1.0 (omega arith));
    items = now;
    refs = kept ref_cells t.refs was.refs (others.1.1.1.1.1.1.1.0 (omega arith));
    files = kept file_cells t.files was.files (others.1.1.1.1.1.1.1.1.0 (omega arith));
    texts = kept text_cells t.texts was.texts (others.1.1.1.1.1.1.1.1.1.0 (omega arith));
    dates = kept date_cells t.dates was.dates (others.1.1.1.1.1.1.1.1.1.1.0 (omega arith));
  }

  pub with_refs : (rows : Numbered Ref) → HasRows ref_cells rows (new 15) → KeepsOthers 15 old new → HoldsRows new (record t { refs = rows })
  with_refs rows now others = record {
    meta = kept meta_cells t.meta was.meta (others.0 (omega arith));
    bodies = kept body_cells t.bodies was.bodies (ap (map full_body) (others.1.0 (omega arith)));
    pieces = kept piece_cells t.pieces was.pieces (others.1.1.0 (omega arith));
    arrivals = kept arrival_cells t.arrivals was.arrivals (others.1.1.1.0 (omega arith));
    uploads = kept upload_cells t.uploads was.uploads (ap (map full_upload) (others.1.1.1.1.0 (omega arith)));
    wants = kept want_cells t.wants was.wants (others.1.1.1.1.1.0 (omega arith));
    items = kept item_cells t.items was.items (others.1.1.1.1.1.1.0 (omega arith));
    refs = now;
    files = kept file_cells t.files was.files (others.1.1.1.1.1.1.1.1.0 (omega arith));
    texts = kept text_cells t.texts was.texts (others.1.1.1.1.1.1.1.1.1.0 (omega arith));
    dates = kept date_cells t.dates was.dates (others.1.1.1.1.1.1.1.1.1.1.0 (omega arith));
  }

  pub with_files : (rows : Numbered File) → HasRows file_cells rows (new 17) → KeepsOthers 17 old new → HoldsRows new (record t { files = rows })
  with_files rows now others = record {
    meta = kept meta_cells t.meta was.meta (others.0 (omega arith));
    bodies = kept body_cells t.bodies was.bodies (ap (map full_body) (others.1.0 (omega arith)));
    pieces = kept piece_cells t.pieces was.pieces (others.1.1.0 (omega arith));
    arrivals = kept arrival_cells t.arrivals was.arrivals (others.1.1.1.0 (omega arith));
    uploads = kept upload_cells t.uploads was.uploads (ap (map full_upload) (others.1.1.1.1.0 (omega arith)));
    wants = kept want_cells t.wants was.wants (others.1.1.1.1.1.0 (omega arith));
    items = kept item_cells t.items was.items (others.1.1.1.1.1.1.0 (omega arith));
    refs = kept ref_cells t.refs was.refs (others.1.1.1.1.1.1.1.0 (omega arith));
    files = now;
    texts = kept text_cells t.texts was.texts (others.1.1.1.1.1.1.1.1.1.0 (omega arith));
    dates = kept date_cells t.dates was.dates (others.1.1.1.1.1.1.1.1.1.1.0 (omega arith));
  }

  pub with_texts : (rows : Numbered TextRow) → HasRows text_cells rows (new 19) → KeepsOthers 19 old new → HoldsRows new (record t { texts = rows })
  with_texts rows now others = record {
    meta = kept meta_cells t.meta was.meta (others.0 (omega arith));
    bodies = kept body_cells t.bodies was.bodies (ap (map full_body) (others.1.0 (omega arith)));
    pieces = kept piece_cells t.pieces was.pieces (others.1.1.0 (omega arith));
    arrivals = kept arrival_cells t.arrivals was.arrivals (others.1.1.1.0 (omega arith));
    uploads = kept upload_cells t.uploads was.uploads (ap (map full_upload) (others.1.1.1.1.0 (omega arith)));
    wants = kept want_cells t.wants was.wants (others.1.1.1.1.1.0 (omega arith));
    items = kept item_cells t.items was.items (others.1.1.1.1.1.1.0 (omega arith));
    refs = kept ref_cells t.refs was.refs (others.1.1.1.1.1.1.1.0 (omega arith));
    files = kept file_cells t.files was.files (others.1.1.1.1.1.1.1.1.0 (omega arith));
    texts = now;
    dates = kept date_cells t.dates was.dates (others.1.1.1.1.1.1.1.1.1.1.0 (omega arith));
  }

  pub with_dates : (rows : Numbered Date) → HasRows date_cells rows (new 21) → KeepsOthers 21 old new → HoldsRows new (record t { dates = rows })
  with_dates rows now others = record {
    meta = kept meta_cells t.meta was.meta (others.0 (omega arith));
    bodies = kept body_cells t.bodies was.bodies (ap (map full_body) (others.1.0 (omega arith)));
    pieces = kept piece_cells t.pieces was.pieces (others.1.1.0 (omega arith));
    arrivals = kept arrival_cells t.arrivals was.arrivals (others.1.1.1.0 (omega arith));
    uploads = kept upload_cells t.uploads was.uploads (ap (map full_upload) (others.1.1.1.1.0 (omega arith)));
    wants = kept want_cells t.wants was.wants (others.1.1.1.1.1.0 (omega arith));
    items = kept item_cells t.items was.items (others.1.1.1.1.1.1.0 (omega arith));
    refs = kept ref_cells t.refs was.refs (others.1.1.1.1.1.1.1.0 (omega arith));
    files = kept file_cells t.files was.files (others.1.1.1.1.1.1.1.1.0 (omega arith));
    texts = kept text_cells t.texts was.texts (others.1.1.1.1.1.1.1.1.1.0 (omega arith));
    dates = now;
  }
