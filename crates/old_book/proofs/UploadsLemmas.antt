-- What the statement that adds an upload under its number does.
use Rattle.std.proofs.Common.{lit≤, ◌≡◌, ℕ, pos, [], ◌∷◌, ◌++◌, Ok, Err, Result, OnOk, refl, Option, Some, None}
use Rattle.sqlite.specs.Order.{Row}
use Rattle.sqlite.specs.declared.types.Value.TheVariants.{Null, Text}
use Rattle.sqlite.specs.Cast.{cast, cast_row}
use Rattle.sqlite.specs.Kind.TheVariants.{Integer}
use Rattle.sqlite.specs.Values.{bound_value, or_null}
use Rattle.sqlite.specs.declared.error.Error.{Error}
use Rattle.sqlite.specs.State.{State, ExecutesInside}
use Rattle.tables.specs.Schema.{uploads_table}
use Rattle.tables.specs.Rows.{id_cell, id_int, whole, print_cells, Changes, upload_cells, stored}
use Rattle.tables.specs.declared.rows.UploadRow.{UploadRow}
use Rattle.tables.proofs.CastLemmas.{cast_null, cast_int}
use Rattle.tables.proofs.InsertLemmas.{puts}
use Rattle.tables.proofs.HoldsLemmas.{with_uploads}
use Rattle.tables.proofs.FullLemmas.{raw, raw_cells, raw_rows, full_rows_as}
use Rattle.tables.proofs.UploadsLemmas.{storing}
use Rattle.old_book.specs.Placed.{with_upload_at}
use Rattle.old_book.specs.declared.uploads.TheConstants.{COPY_UPLOAD}
use Rattle.old_book.proofs.Meaning.{copy_upload_terms, copy_upload_is, copy_upload_plain}
use Rattle.old_book.proofs.PlaceLemmas.{places_row, placed_of}

-- the values of a row without its number
abbrev pub upload_params : UploadRow → Row
upload_params u = Text u.name ∷ (print_cells u.print ++ or_null whole u.place ∷ or_null whole u.verdict ∷ [])

-- a number that may be absent, as it is bound and as it is stored
pub bound_some : (n : Option ℕ) → bound_value (or_null whole n) ≡ or_null whole n
bound_some None = refl
bound_some (Some n) = refl

cast_some : (n : Option ℕ) → cast Integer (or_null whole n) ≡ or_null whole n
cast_some None = cast_null
cast_some (Some n) = cast_int (pos n)

upload_cast : (id : ℕ) (u : UploadRow) → cast_row uploads_table (id_cell id ∷ Null ∷ upload_params u) ≡ stored upload_cells (id, u)
upload_cast id u = rw (cast_null, cast_int (id_int id), cast_int (pos u.print.size), cast_some u.place, cast_some u.verdict)

pub copies_upload : (old new : State) (id : ℕ) (u : UploadRow) (r : Result ℕ Error) → ExecutesInside 0 COPY_UPLOAD.now (id_cell id ∷ upload_params u) old new r
    → OnOk r (Changes old new (with_upload_at (id, u)))
copies_upload old new id u (Ok count) h = record {
  held = λ t was.
      let put =
      puts COPY_UPLOAD.now 4 copy_upload_terms 9 copy_upload_is copy_upload_plain _ _ _ _ _ _ 7 (λ _. refl) (lit≤ tt)
      old new (id_cell id ∷ upload_params u) (id_cell id ∷ Null ∷ upload_params u) count refl was.schema h.0 in
      let r = raw_rows storing t.uploads (old.now.trees 7) was.rows.uploads in
      let now = places_row (raw_cells storing) uploads_table _ (id, raw storing u) (upload_cast id u) old new put r.of r.has in
      record {
        schema = put.schema_is;
        rows = with_uploads old.now.trees new.now.trees t was.rows _ (full_rows_as storing _ _ (new.now.trees 7) (placed_of storing t.uploads r.of (id, u) r.values) now) put.others;
      };
  shown = h.1;
}
copies_upload old new id u (Err e) h = tt
