-- All tables at once.
use Rattle.std.proofs.Common.{◌≡◌, ◌⊎◌, inl, inr, List, map, map-id, All, sym, ◌∙◌}
use Rattle.std.specs.Prelude.{⊤}
use Rattle.std.specs.List.{AllByRecursion}
use Rattle.std.proofs.lemmas.List.Elements.{recursion_from_All}
use Rattle.sqlite.specs.Effect.{Database}
use Rattle.sqlite.specs.Order.{Row}
use Rattle.sqlite_keyed.proofs.ListLemmas.{all_of, all_unmap}
use Rattle.tables.specs.Rows.{Numbered, HasRows, Tables, Holds, rows_of}
use Rattle.tables.specs.Others.{IsArchiveSchema}
use Rattle.tables_read.specs.Layout.{IsTable, IsNoTable}
use Rattle.tables_read.specs.Layouts.{meta_layout, body_layout, piece_layout, arrival_layout, upload_layout, want_layout, item_layout, ref_layout, file_layout, text_layout, date_layout}
use Rattle.tables.specs.Real.{AreReal, IsRealBody, IsRealArrival, IsRealUpload, IsRealWant, IsRealItem, IsRealRef, IsRealFile, IsRealText, IsRealDate}

plain : {X : Type 0} {cells : X → Row} {xs : Numbered X} {tree : List Row} → HasRows cells xs (map (λ r. r) tree) → HasRows cells xs tree
plain {tree = tree} h = record { are = sym (map-id tree) ∙ h.are; rise = h.rise }

full : {X : Type 0} {cells : X → Row} {xs : Numbered X} {tree : List Row} → HasRows cells xs tree → HasRows cells xs (map (λ r. r) tree)
full {tree = tree} h = record { are = map-id tree ∙ h.are; rise = h.rise }

real_rows : {X : Type 0} (P : X → Type 0) (xs : Numbered X) → All P (rows_of xs) → AllByRecursion (λ x. P x.1) xs
real_rows P xs all = all_unmap P (λ x. x.1) xs (recursion_from_All P (rows_of xs) all)

any_rows : {X : Type 0} (xs : Numbered X) → AllByRecursion (λ _. ⊤) xs
any_rows xs = all_of _ (λ _. tt) xs

-- the tables are these, in the pairs in which they are read
abbrev pub AreTables : Database → Tables → Type 0
AreTables db t =
    (IsTable meta_layout db t.meta × (IsTable body_layout db t.bodies × (IsTable piece_layout db t.pieces × IsTable arrival_layout db t.arrivals)))
    × ((IsTable upload_layout db t.uploads × IsTable want_layout db t.wants)
    × ((IsTable item_layout db t.items × (IsTable ref_layout db t.refs × IsTable file_layout db t.files)) × (IsTable text_layout db t.texts × IsTable date_layout db t.dates)))

abbrev pub AreNoTables : Database → Type 0
AreNoTables db =
    (IsNoTable meta_layout (λ _. ⊤) db ⊎ (IsNoTable body_layout IsRealBody db ⊎ (IsNoTable piece_layout (λ _. ⊤) db ⊎ IsNoTable arrival_layout IsRealArrival db)))
    ⊎ ((IsNoTable upload_layout IsRealUpload db ⊎ IsNoTable want_layout IsRealWant db)
    ⊎ ((IsNoTable item_layout IsRealItem db ⊎ (IsNoTable ref_layout IsRealRef db ⊎ IsNoTable file_layout IsRealFile db)) ⊎ (IsNoTable text_layout IsRealText db ⊎ IsNoTable date_layout IsRealDate db)))

pub holds_all : (db : Database) (t : Tables) → IsArchiveSchema db.schema → AreTables db t → Holds db t
holds_all db t schema h = record {
  schema = schema;
  rows = record {
    meta = plain h.0.0;
    bodies = h.0.1.0;
    pieces = plain h.0.1.1.0;
    arrivals = plain h.0.1.1.1;
    uploads = h.1.0.0;
    wants = plain h.1.0.1;
    items = plain h.1.1.0.0;
    refs = plain h.1.1.0.1.0;
    files = plain h.1.1.0.1.1;
    texts = plain h.1.1.1.0;
    dates = plain h.1.1.1.1;
  };
}

pub holds_none : (db : Database) (t : Tables) → AreNoTables db → AreReal t → Holds db t → ⊥
holds_none db t (inl (inl none)) real h = none t.meta (any_rows t.meta) (full h.rows.meta)
holds_none db t (inl (inr (inl none))) real h = none t.bodies (real_rows IsRealBody t.bodies real.bodies) h.rows.bodies
holds_none db t (inl (inr (inr (inl none)))) real h = none t.pieces (any_rows t.pieces) (full h.rows.pieces)
holds_none db t (inl (inr (inr (inr none)))) real h = none t.arrivals (real_rows IsRealArrival t.arrivals real.arrivals) (full h.rows.arrivals)
holds_none db t (inr (inl (inl none))) real h = none t.uploads (real_rows IsRealUpload t.uploads real.uploads) h.rows.uploads
holds_none db t (inr (inl (inr none))) real h = none t.wants (real_rows IsRealWant t.wants real.wants) (full h.rows.wants)
holds_none db t (inr (inr (inl (inl none)))) real h = none t.items (real_rows IsRealItem t.items real.items) (full h.rows.items)
holds_none db t (inr (inr (inl (inr (inl none))))) real h = none t.refs (real_rows IsRealRef t.refs real.refs) (full h.rows.refs)
holds_none db t (inr (inr (inl (inr (inr none))))) real h = none t.files (real_rows IsRealFile t.files real.files) (full h.rows.files)
holds_none db t (inr (inr (inr (inl none)))) real h = none t.texts (real_rows IsRealText t.texts real.texts) (full h.rows.texts)
holds_none db t (inr (inr (inr (inr none)))) real h = none t.dates (real_rows IsRealDate t.dates real.dates) (full h.rows.dates)
