-- What the statements on files do.
use Rattle.std.proofs.Common.{lit≤, ◌≡◌, ℕ, pos, [], ◌∷◌, Ok, Err, Result, OnOk, refl, true, List, map, filter, find, Option, sym, ap, ◌∙◌}
use Rattle.sqlite.specs.Order.{column}
use Rattle.sqlite.specs.Term.{col}
use Rattle.sqlite.specs.declared.types.Value.TheVariants.{Null, Text}
use Rattle.sqlite.specs.Cast.{cast_row}
use Rattle.sqlite.specs.declared.error.Error.{Error}
use Rattle.sqlite.specs.State.{State, ExecutesInside, IsUnchanged}
use Rattle.sqlite_typed.proofs.TestLemmas.{last_term}
use Rattle.sqlite_typed.proofs.AnswerLemmas.{unfiltered}
use Rattle.tables.specs.Reading.{IsRead, IsReadFirst}
use Rattle.tables.proofs.CastLemmas.{cast_null, cast_int}
use Rattle.tables.proofs.EqualLemmas.{id_back, text_test}
use Rattle.tables.proofs.InsertLemmas.{puts}
use Rattle.tables.proofs.AddLemmas.{adds_row}
use Rattle.tables.proofs.ShownLemmas.{Shows, reads_stored}
use Rattle.sqlite_keyed.proofs.ListLemmas.{map_same, map-map, slice_get-filter}
use Rattle.std.specs.Prelude.{slice_get}
use Rattle.tables.specs.Schema.{files_table}
use Rattle.tables.specs.Rows.{id_of, id_cell, id_int, Tables, Holds, Changes, with_file, file_cells, file_of, stored, rows_of}
use Rattle.tables.specs.Files.{is_file_at, without_file}
use Rattle.tables.specs.declared.rows.File.{File}
use Rattle.tables.specs.declared.files.TheConstants.{INSERT_FILE, SELECT_FILE, SELECT_BODIES, DELETE_FILE}
use Rattle.tables.proofs.FilesMeaning.{insert_file_terms, insert_file_is, insert_file_plain, file_columns, file_path_is, select_file_is, select_file_plain, select_bodies_is, select_bodies_plain, delete_file_columns, delete_file_is, delete_file_plain}
use Rattle.tables.proofs.HoldsLemmas.{with_files}
use Rattle.tables.proofs.SelectLemmas.{reads_rows}
use Rattle.tables.proofs.UpdateLemmas.{deletes, deletes_rows}

file_cast : (path : List ℕ) (body : ℕ) → cast_row files_table (Null ∷ Text path ∷ id_cell body ∷ []) ≡ Null ∷ file_cells (record { path = path; body = body })
file_cast path body = rw (cast_null, cast_int (id_int body))

pub inserts_file : (old new : State) (path : List ℕ) (body : ℕ) (r : Result ℕ Error) → ExecutesInside 0 INSERT_FILE.now (Text path ∷ id_cell body ∷ []) old new r
    → OnOk r (Changes old new (with_file (record { path = path; body = body })))
inserts_file old new path body (Ok count) h = record {
  held = λ t was.
      let put = puts INSERT_FILE.now 8 insert_file_terms 3 insert_file_is insert_file_plain _ _ _ _ _ _ 17 (λ _. refl) (lit≤ tt)
      old new (Text path ∷ id_cell body ∷ []) (Null ∷ Text path ∷ id_cell body ∷ []) count refl was.schema h.0 in
      record { schema = put.schema_is; rows = with_files old.now.trees new.now.trees t was.rows _ (adds_row file_cells files_table _ (record { path = path; body = body }) (file_cast path body) old new put t.files was.rows.files) put.others };
  shown = h.1;
}
inserts_file old new path body (Err e) h = tt

file_shows : (path : List ℕ) → Shows file_cells 17 file_path_is file_columns (Text path ∷ []) (λ x. is_file_at path x.1) (stored file_cells) SELECT_FILE.now
file_shows path = record { names = _; is = (λ o. (select_file_is o).0); plain = select_file_plain; unlisted = (λ o. (select_file_is o).1); tests = λ x. last_term (text_test x.1.path path); shows = λ _. refl; real = λ _. refl }

pub file_answer : (old new : State) (t : Tables) (path : List ℕ) (found : Option File) → Holds old.now t → IsReadFirst file_of SELECT_FILE.now (Text path ∷ []) old new found
    → (found ≡ find (is_file_at path) (rows_of t.files)) × IsUnchanged old new
file_answer old new t path found was h =
    let all = reads_stored file_cells 17 file_path_is file_columns (Text path ∷ []) SELECT_FILE.now old new t.files was.schema was.rows.files (is_file_at path) file_of (λ x. λ i. record x.1 { body = id_back x.1.body i }) (file_shows path) h.all h.read in
    (h.is ∙ ap (λ l. slice_get l 0) all.0 ∙ slice_get-filter (is_file_at path) (rows_of t.files), all.1)

pub filed_bodies_answer : (old new : State) (t : Tables) (all : List ℕ) → Holds old.now t → IsRead (λ row. id_of (column row 0)) SELECT_BODIES.now [] old new all
    → (all ≡ map (λ f. f.body) (rows_of t.files)) × IsUnchanged old new
filed_bodies_answer old new t all was h =
    let show = λ (x : ℕ × File). id_cell x.1.body ∷ [] in
    let rows =
    reads_rows file_cells 17 [] (col 1 2 ∷ []) [] (λ _. true) show (λ _. refl) (λ _. refl)
    SELECT_BODIES.now _ (λ _. refl) old new h.rows t.files (λ o. (select_bodies_is o).0) select_bodies_plain (λ o. (select_bodies_is o).1) was.schema was.rows.files h.shown in (
      h.are ∙ ap (map (λ row. id_of (column row 0))) rows ∙ map-map (λ row. id_of (column row 0)) show (filter (λ _. true) t.files)
          ∙ map_same _ (λ (x : ℕ × File). x.1.body) (λ x. id_back x.1.body) _
          ∙ ap (map (λ (x : ℕ × File). x.1.body)) (unfiltered t.files refl) ∙ sym (map-map (λ (f : File). f.body) (λ (x : ℕ × File). x.1) t.files),
      h.same,
    )

pub removes_file : (old new : State) (path : List ℕ) (r : Result ℕ Error) → ExecutesInside 0 DELETE_FILE.now (Text path ∷ []) old new r → OnOk r (Changes old new (without_file path))
removes_file old new path (Ok count) h = record {
  held = λ t was.
      let params = Text path ∷ [] in
      let did = deletes DELETE_FILE.now 8 _ delete_file_plain files_table (λ _. refl) (lit≤ tt) delete_file_is old new params count was.schema h.0 in
      let now = deletes_rows file_cells 17 file_path_is delete_file_columns params (λ x. is_file_at path x.1) (λ x. id_cell x.0 ∷ [])
      (λ x. last_term (text_test x.1.path path)) (λ _. refl) (λ _. refl) (λ _. refl)
      old new t.files was.rows.files did.0 did.1 did.2 in
      record { schema = did.2.schema_is; rows = with_files old.now.trees new.now.trees t was.rows _ now did.2.others };
  shown = h.1;
}
removes_file old new path (Err e) h = tt
