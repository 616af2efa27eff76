-- Archives of older layouts: what eleven queries show of them, as rows of today's tables.
use Rattle.std.specs.Prelude.{◌⊎◌, ℕ, List, [], ◌∷◌, codes, ⊤}
use Rattle.old_rows.specs.Shown.{IsNotShown, IsSelectText, IsShown}
use Rattle.sqlite.specs.Effect.{Database}
use Rattle.tables.specs.Real.{IsRealArrival, IsRealBody, IsRealDate, IsRealFile, IsRealItem, IsRealRef, IsRealText, IsRealUpload, IsRealWant}
use Rattle.tables.specs.Rows.{Tables, meta_cells, piece_cells, want_cells, ref_cells, file_cells, text_cells, date_cells}
use Rattle.tables_read.specs.Layouts.{arrival_seen, body_seen, item_seen, upload_seen}
use Rattle.tables_read.specs.Layouts.{meta_layout, body_layout, piece_layout, arrival_layout, upload_layout, want_layout, item_layout, ref_layout, file_layout, text_layout, date_layout}

-- The texts that ask a database of a layout for rows of today's tables, one text for each table.
pub record Asked : Type 0 where
  pub meta : List ℕ
  pub bodies : List ℕ
  pub pieces : List ℕ
  pub arrivals : List ℕ
  pub uploads : List ℕ
  pub wants : List ℕ
  pub items : List ℕ
  pub refs : List ℕ
  pub files : List ℕ
  pub texts : List ℕ
  pub dates : List ℕ

-- Each of the texts that ask for the rows is a SELECT.
pub record AreSelects (asked : Asked) : Type 0 where
  pub meta : IsSelectText asked.meta
  pub bodies : IsSelectText asked.bodies
  pub pieces : IsSelectText asked.pieces
  pub arrivals : IsSelectText asked.arrivals
  pub uploads : IsSelectText asked.uploads
  pub wants : IsSelectText asked.wants
  pub items : IsSelectText asked.items
  pub refs : IsSelectText asked.refs
  pub files : IsSelectText asked.files
  pub texts : IsSelectText asked.texts
  pub dates : IsSelectText asked.dates

-- The queries of a layout show these rows.
pub record AreShown (asked : Asked) (db : Database) (t : Tables) : Type 0 where
  pub meta : IsShown meta_cells asked.meta db t.meta
  pub bodies : IsShown body_seen asked.bodies db t.bodies
  pub pieces : IsShown piece_cells asked.pieces db t.pieces
  pub arrivals : IsShown arrival_seen asked.arrivals db t.arrivals
  pub uploads : IsShown upload_seen asked.uploads db t.uploads
  pub wants : IsShown want_cells asked.wants db t.wants
  pub items : IsShown item_seen asked.items db t.items
  pub refs : IsShown ref_cells asked.refs db t.refs
  pub files : IsShown file_cells asked.files db t.files
  pub texts : IsShown text_cells asked.texts db t.texts
  pub dates : IsShown date_cells asked.dates db t.dates

-- One of the queries of a layout is refused, or shows rows that cannot be rows of its table.
abbrev pub ShowsNone : Asked → Database → Type 0
ShowsNone asked db =
    IsNotShown meta_layout (λ _. ⊤) asked.meta db
    ⊎ (IsNotShown body_layout IsRealBody asked.bodies db
    ⊎ (IsNotShown piece_layout (λ _. ⊤) asked.pieces db
    ⊎ (IsNotShown arrival_layout IsRealArrival asked.arrivals db
    ⊎ (IsNotShown upload_layout IsRealUpload asked.uploads db
    ⊎ (IsNotShown want_layout IsRealWant asked.wants db
    ⊎ (IsNotShown item_layout IsRealItem asked.items db
    ⊎ (IsNotShown ref_layout IsRealRef asked.refs db
    ⊎ (IsNotShown file_layout IsRealFile asked.files db
    ⊎ (IsNotShown text_layout IsRealText asked.texts db
    ⊎ IsNotShown date_layout IsRealDate asked.dates db)))))))))

-- The layout that keeps a body in the rows of its arrivals and files. A body has the number of its first arrival, and is cut into
-- pieces of 65,536 bytes.
abbrev pub first_layout : Asked
first_layout = record {
  meta = codes "SELECT rowid, 3, configuration FROM meta WHERE version = 1 ORDER BY rowid";
  bodies = codes "SELECT min(id), size, md5, sha1, sha256 FROM arrivals GROUP BY size, md5, sha1, sha256 ORDER BY min(id)";
  pieces = codes "WITH RECURSIVE k (n) AS (SELECT 1 UNION ALL SELECT n + 1 FROM k LIMIT 64), b (id) AS (SELECT min(id) FROM arrivals GROUP BY size, md5, sha1, sha256) SELECT k.n, a.id, k.n, substr(a.body, CAST(65536 * k.n - 65535 AS INTEGER), 65536) FROM b JOIN arrivals AS a ON a.id = b.id JOIN k ON 65536 * k.n - 65535 <= length(a.body) ORDER BY a.id, k.n";
  arrivals = codes "SELECT a.id, a.name, min(b.id), 0 FROM arrivals AS a JOIN arrivals AS b ON b.size = a.size AND b.md5 = a.md5 AND b.sha1 = a.sha1 AND b.sha256 = a.sha256 AND b.body = a.body GROUP BY a.id, a.name ORDER BY a.id";
  uploads = codes "SELECT u.arrival, a.name, a.size, a.md5, a.sha1, a.sha256, u.place, u.verdict FROM uploads AS u JOIN arrivals AS a ON a.id = u.arrival ORDER BY u.arrival";
  wants = codes "SELECT rowid, upload, name, size, md5, sha1, sha256, here FROM wants ORDER BY rowid";
  items = codes "SELECT rowid, suite, kind, package, architecture, version, component, source, paragraph FROM items ORDER BY rowid";
  refs = codes "SELECT rowid, item, number, path, size, md5, sha1, sha256 FROM refs ORDER BY rowid";
  files = codes "SELECT f.rowid, f.path, min(a.id) FROM files AS f JOIN arrivals AS a ON a.size = f.size AND a.md5 = f.md5 AND a.sha1 = f.sha1 AND a.sha256 = f.sha256 AND a.body = f.body GROUP BY f.rowid, f.path ORDER BY f.rowid";
  texts = codes "SELECT rowid, path, body FROM texts ORDER BY rowid";
  dates = codes "SELECT rowid, suite, moment FROM dates ORDER BY rowid";
}

-- The layout that keeps bodies in pieces, and arrivals without their moments. A body without a print is passed over.
abbrev pub second_layout : Asked
second_layout = record {
  meta = codes "SELECT rowid, 3, configuration FROM meta WHERE version = 2 ORDER BY rowid";
  bodies = codes "SELECT rowid, size, md5, sha1, sha256 FROM bodies WHERE size IS NOT NULL ORDER BY rowid";
  pieces = codes "SELECT rowid, body, number, bytes FROM pieces WHERE body IN (SELECT id FROM bodies WHERE size IS NOT NULL) ORDER BY rowid";
  arrivals = codes "SELECT rowid, name, body, 0 FROM arrivals ORDER BY rowid";
  uploads = codes "SELECT u.arrival, a.name, b.size, b.md5, b.sha1, b.sha256, u.place, u.verdict FROM uploads AS u JOIN arrivals AS a ON a.id = u.arrival JOIN bodies AS b ON b.id = a.body ORDER BY u.arrival";
  wants = codes "SELECT rowid, upload, name, size, md5, sha1, sha256, here FROM wants ORDER BY rowid";
  items = codes "SELECT rowid, suite, kind, package, architecture, version, component, source, paragraph FROM items ORDER BY rowid";
  refs = codes "SELECT rowid, item, number, path, size, md5, sha1, sha256 FROM refs ORDER BY rowid";
  files = codes "SELECT rowid, path, body FROM files ORDER BY rowid";
  texts = codes "SELECT rowid, path, body FROM texts ORDER BY rowid";
  dates = codes "SELECT rowid, suite, moment FROM dates ORDER BY rowid";
}

-- The layouts older than today's.
abbrev pub older_layouts : List Asked
older_layouts = first_layout ∷ second_layout ∷ []
