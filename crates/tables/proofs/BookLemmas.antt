-- The tables that a database holds are a function of it.
use Rattle.std.proofs.Common.{◌≡◌, ℕ, true, false, Some, None, map, refl, sym, subst, ap, ◌∙◌}
use Rattle.std.proofs.Props.{props}
use Rattle.sqlite.specs.Order.{Row}
use Rattle.sqlite.specs.Effect.{Database}
use Rattle.sqlite_keyed.proofs.ListLemmas.{map_back, map-map}
use Rattle.sqlite.specs.Values.{or_null}
use Rattle.tables.specs.Rows.{whole, some_nat, Numbered, HasRows, Tables, Holds, IsArchive, full_body, full_upload, stored, row_of, tables_in, meta_cells, meta_of, body_cells, body_of, piece_cells, piece_of, arrival_cells, arrival_of, upload_cells, upload_of, want_cells, want_of, item_cells, item_of, ref_cells, ref_of, file_cells, file_of, text_cells, text_of, date_cells, date_of}
use Rattle.tables.specs.declared.rows.BodyRow.{BodyRow}
use Rattle.tables.specs.declared.rows.UploadRow.{UploadRow}
use Rattle.tables.specs.declared.rows.Want.{Want}
use Rattle.tables.proofs.EqualLemmas.{id_back}

body_back : (b : BodyRow) → body_of (stored body_cells (0, b)) ≡ b
body_back b = elim b.print as (λ p. body_of (stored body_cells (0, record { print = p })) ≡ record { print = p }) [ None ↦ refl | Some p ↦ refl ]

upload_back : (u : UploadRow) → upload_of (stored upload_cells (0, u)) ≡ u
upload_back u =
    let place = elim u.place as (λ p. some_nat (or_null whole p) ≡ p) [ None ↦ refl | Some n ↦ refl ] in
    let verdict = elim u.verdict as (λ v. some_nat (or_null whole v) ≡ v) [ None ↦ refl | Some n ↦ refl ] in
    λ i. record u { place = place i; verdict = verdict i }

want_back : (w : Want) → want_of (stored want_cells (0, w)) ≡ w
want_back w =
    (λ i. record (want_of (stored want_cells (0, w))) { upload = id_back w.upload i })
    ∙ elim w.here as (λ b. record (want_of (stored want_cells (0, record w { here = b }))) { upload = w.upload } ≡ record w { here = b }) [ true ↦ refl | false ↦ refl ]

read_back : {X : Type 0} (cells : X → Row) (read : Row → X) → ((x : X) → read (stored cells (0, x)) ≡ x) → ((x : ℕ × X) → read (stored cells x) ≡ read (stored cells (0, x.1)))
    → (rows : Numbered X) (tree : _) → HasRows cells rows tree → map (row_of read) tree ≡ rows
read_back cells read back same rows tree h = ap (map (row_of read)) h.are ∙ map_back (stored cells) (row_of read) (λ x. λ i. (id_back x.0 i, (same x ∙ back x.1) i)) rows

pub held_tables : (db : Database) (t : Tables) → Holds db t → tables_in db ≡ t
held_tables db t h =
    let meta = read_back meta_cells meta_of (λ _. refl) (λ _. refl) t.meta _ h.rows.meta in
    let bodies = sym (map-map (row_of body_of) full_body (db.trees 1)) ∙ read_back body_cells body_of body_back (λ _. refl) t.bodies _ h.rows.bodies in
    let pieces = read_back piece_cells piece_of (λ p. λ i. record p { body = id_back p.body i }) (λ _. refl) t.pieces _ h.rows.pieces in
    let arrivals = read_back arrival_cells arrival_of (λ a. λ i. record a { body = id_back a.body i }) (λ _. refl) t.arrivals _ h.rows.arrivals in
    let uploads = sym (map-map (row_of upload_of) full_upload (db.trees 7)) ∙ read_back upload_cells upload_of upload_back (λ _. refl) t.uploads _ h.rows.uploads in
    let wants = read_back want_cells want_of want_back (λ _. refl) t.wants _ h.rows.wants in
    let items = read_back item_cells item_of (λ _. refl) (λ _. refl) t.items _ h.rows.items in
    let refs = read_back ref_cells ref_of (λ r. λ i. record r { item = id_back r.item i }) (λ _. refl) t.refs _ h.rows.refs in
    let files = read_back file_cells file_of (λ f. λ i. record f { body = id_back f.body i }) (λ _. refl) t.files _ h.rows.files in
    let texts = read_back text_cells text_of (λ _. refl) (λ _. refl) t.texts _ h.rows.texts in
    let dates = read_back date_cells date_of (λ _. refl) (λ _. refl) t.dates _ h.rows.dates in
    λ i. record { meta = meta i; bodies = bodies i; pieces = pieces i; arrivals = arrivals i; uploads = uploads i; wants = wants i; items = items i; refs = refs i; files = files i; texts = texts i; dates = dates i }

-- a database that holds any tables is that of an archive
pub is_archive : (db : Database) (t : Tables) → Holds db t → IsArchive db
is_archive db t h = subst (Holds db) (sym (held_tables db t h)) h

pub tables_set : IsSet Tables
tables_set = hlevel props
