-- How each table of an archive stores its rows.
use Rattle.std.specs.Prelude.{ℕ, List, [], ◌∷◌, Option, ⊤}
use Rattle.sqlite.specs.declared.types.Value.TheVariants.{Text, Blob}
use Rattle.sqlite.specs.Order.{Row}
use Rattle.sqlite.specs.Term.{col}
use Rattle.sqlite.specs.Values.{or_null}
use Rattle.tables.specs.Rows.{full_body, full_upload, id_cell, whole, meta_cells, body_cells, piece_cells, arrival_cells, upload_cells, want_cells, item_cells, ref_cells, file_cells, text_cells, date_cells}
use Rattle.tables.specs.Schema as schema
use Rattle.tables.specs.declared.rows.ArrivalRow.{ArrivalRow}
use Rattle.tables.specs.declared.rows.BodyRow.{BodyRow}
use Rattle.tables.specs.declared.rows.Date.{Date}
use Rattle.tables.specs.declared.rows.File.{File}
use Rattle.tables.specs.declared.rows.TextRow.{TextRow}
use Rattle.tables.specs.declared.rows.ItemRow.{ItemRow}
use Rattle.tables.specs.declared.rows.Meta.{Meta}
use Rattle.tables.specs.declared.rows.Piece.{Piece}
use Rattle.tables.specs.declared.rows.Ref.{Ref}
use Rattle.tables.specs.declared.rows.UploadRow.{UploadRow}
use Rattle.tables.specs.declared.rows.Want.{Want}
use Rattle.tables_read.specs.Layout.{Layout}

abbrev pub meta_layout : Layout Meta
meta_layout = record { tree = 0; table = schema.meta; columns = col 1 0 ∷ col 1 1 ∷ col 1 2 ∷ []; full = λ r. r; cells = meta_cells; seen = meta_cells }

-- a body without its id
abbrev pub body_seen : BodyRow → Row
body_seen b = or_null (λ p. whole p.size) b.print ∷ or_null (λ p. Blob p.md5) b.print ∷ or_null (λ p. Blob p.sha1) b.print ∷ or_null (λ p. Blob p.sha256) b.print ∷ []

-- what is stored of the parts of a print, each if it is there
abbrev pub seen_in : Option ℕ × (Option (List ℕ) × (Option (List ℕ) × (Option (List ℕ) × ⊤))) → Row
seen_in p = or_null whole p.0 ∷ or_null Blob p.1.0 ∷ or_null Blob p.1.1.0 ∷ or_null Blob p.1.1.1.0 ∷ []

abbrev pub body_layout : Layout BodyRow
body_layout = record { tree = 1; table = schema.bodies; columns = col 1 0 ∷ col 1 2 ∷ col 1 3 ∷ col 1 4 ∷ col 1 5 ∷ []; full = full_body; cells = body_cells; seen = body_seen }

abbrev pub piece_layout : Layout Piece
piece_layout = record { tree = 3; table = schema.pieces; columns = col 1 0 ∷ col 1 1 ∷ col 1 2 ∷ col 1 3 ∷ []; full = λ r. r; cells = piece_cells; seen = piece_cells }

abbrev pub arrival_seen : ArrivalRow → Row
arrival_seen a = Text a.name ∷ id_cell a.body ∷ whole a.moment ∷ []

abbrev pub arrival_layout : Layout ArrivalRow
arrival_layout = record { tree = 5; table = schema.arrivals; columns = col 1 0 ∷ col 1 2 ∷ col 1 3 ∷ col 1 4 ∷ []; full = λ r. r; cells = arrival_cells; seen = arrival_seen }

abbrev pub upload_seen : UploadRow → Row
upload_seen u = Text u.name ∷ whole u.print.size ∷ Blob u.print.md5 ∷ Blob u.print.sha1 ∷ Blob u.print.sha256 ∷ or_null whole u.place ∷ or_null whole u.verdict ∷ []

abbrev pub upload_layout : Layout UploadRow
upload_layout = record { tree = 7; table = schema.uploads; columns = col 1 0 ∷ col 1 2 ∷ col 1 3 ∷ col 1 4 ∷ col 1 5 ∷ col 1 6 ∷ col 1 7 ∷ col 1 8 ∷ []; full = full_upload; cells = upload_cells; seen = upload_seen }

abbrev pub want_layout : Layout Want
want_layout = record { tree = 10; table = schema.wants; columns = col 1 0 ∷ col 1 1 ∷ col 1 2 ∷ col 1 3 ∷ col 1 4 ∷ col 1 5 ∷ col 1 6 ∷ col 1 7 ∷ []; full = λ r. r; cells = want_cells; seen = want_cells }

abbrev pub item_seen : ItemRow → Row
item_seen i = Text i.suite ∷ whole i.kind ∷ Text i.«package» ∷ Text i.architecture ∷ Text i.version ∷ Text i.component ∷ Text i.source ∷ Blob i.paragraph ∷ []

abbrev pub item_layout : Layout ItemRow
item_layout = record { tree = 13; table = schema.items; columns = col 1 0 ∷ col 1 2 ∷ col 1 3 ∷ col 1 4 ∷ col 1 5 ∷ col 1 6 ∷ col 1 7 ∷ col 1 8 ∷ col 1 9 ∷ []; full = λ r. r; cells = item_cells; seen = item_seen }

abbrev pub ref_layout : Layout Ref
ref_layout = record { tree = 15; table = schema.refs; columns = col 1 0 ∷ col 1 1 ∷ col 1 2 ∷ col 1 3 ∷ col 1 4 ∷ col 1 5 ∷ col 1 6 ∷ col 1 7 ∷ []; full = λ r. r; cells = ref_cells; seen = ref_cells }

abbrev pub file_layout : Layout File
file_layout = record { tree = 17; table = schema.files; columns = col 1 0 ∷ col 1 1 ∷ col 1 2 ∷ []; full = λ r. r; cells = file_cells; seen = file_cells }

abbrev pub text_layout : Layout TextRow
text_layout = record { tree = 19; table = schema.texts; columns = col 1 0 ∷ col 1 1 ∷ col 1 2 ∷ []; full = λ r. r; cells = text_cells; seen = text_cells }

abbrev pub date_layout : Layout Date
date_layout = record { tree = 21; table = schema.dates; columns = col 1 0 ∷ col 1 1 ∷ col 1 2 ∷ []; full = λ r. r; cells = date_cells; seen = date_cells }
