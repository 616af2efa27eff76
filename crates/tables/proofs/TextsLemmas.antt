-- What the statements on texts do.
use Rattle.std.proofs.Common.{lit≤, ◌≡◌, ℕ, pos, [], ◌∷◌, Ok, Err, Result, OnOk, refl, false, List, map, filter, find, slice_get, drop, Option, ap, ◌∙◌, true, subst}
use Rattle.sqlite.specs.Order.{Row}
use Rattle.sqlite.specs.declared.types.Value.TheVariants.{Null, Text, Blob}
use Rattle.sqlite.specs.Cast.{cast_row}
use Rattle.sqlite.specs.declared.error.Error.{Error}
use Rattle.sqlite.specs.State.{State, ExecutesInside, Shown, IsUnchanged}
use Rattle.tables.specs.Schema.{texts_table}
use Rattle.tables.specs.Rows.{id_cell, id_int, Tables, Holds, Changes, with_text, text_cells, text_of, stored, rows_of, HasRows, Numbered}
use Rattle.tables.specs.Texts.{has_path, with_new_text, without_texts}
use Rattle.tables.specs.Reading.{IsReadFirst}
use Rattle.tables.specs.declared.rows.TextRow.{TextRow}
use Rattle.tables.specs.declared.texts.TheConstants.{INSERT_TEXT, UPDATE_TEXT, SELECT_TEXT, DELETE_TEXTS}
use Rattle.tables.proofs.CastLemmas.{cast_null, cast_int}
use Rattle.tables.proofs.TextsMeaning.{insert_text_terms, insert_text_is, insert_text_plain, update_text_columns, update_text_is, update_text_plain, text_columns, path_is, select_text_is, select_text_plain, delete_texts_columns, delete_texts_is, delete_texts_plain}
use Rattle.tables.proofs.InsertLemmas.{puts}
use Rattle.tables.proofs.AddLemmas.{adds_row}
use Rattle.tables.proofs.HoldsLemmas.{with_texts}
use Rattle.tables.proofs.SelectLemmas.{reads_rows, first_read}
use Rattle.tables.proofs.DeleteLemmas.{none_left}
use Rattle.tables.proofs.UpdateLemmas.{updates, updates_rows, deletes, deletes_rows}
use Rattle.sqlite_typed.proofs.TestLemmas.{last_term, at_texts}
use Rattle.std.proofs.lemmas.Map.Text.{is_eq-slice_cmp}
use Rattle.sqlite_sql.specs.declared.ops.CompareOp.TheVariants.{Eq}

abbrev pub text_params : TextRow → Row
text_params x = Text x.path ∷ Blob x.body ∷ []

text_cast : (x : TextRow) → cast_row texts_table (Null ∷ text_params x) ≡ Null ∷ text_cells x
text_cast x = rw cast_null

pub changes_insert_text : (old new : State) (x : TextRow) (r : Result ℕ Error) → ExecutesInside 0 INSERT_TEXT.now (text_params x) old new r → OnOk r (Changes old new (with_text x))
changes_insert_text old new x (Ok count) h = record {
  held = λ t was.
      let put = puts INSERT_TEXT.now 9 insert_text_terms 3 insert_text_is insert_text_plain _ _ _ _ _ _ 19 (λ _. refl) (lit≤ tt)
      old new (text_params x) (Null ∷ text_params x) count refl was.schema h.0 in
      record { schema = put.schema_is; rows = with_texts old.now.trees new.now.trees t was.rows _ (adds_row text_cells texts_table _ x (text_cast x) old new put t.texts was.rows.texts) put.others };
  shown = h.1;
}
changes_insert_text old new x (Err e) h = tt

pub text_read : (old new : State) (t : Tables) (path : List ℕ) (rows : List Row) → Holds old.now t → Shown SELECT_TEXT.now (Text path ∷ []) old new rows
    → rows ≡ map (stored text_cells) (filter (λ x. has_path path x.1) t.texts)
text_read old new t path rows was h =
    reads_rows text_cells 19 path_is text_columns (Text path ∷ []) (λ x. has_path path x.1) (stored text_cells)
    (λ x. last_term (at_texts false Eq x.1.path path ∙ is_eq-slice_cmp x.1.path path)) (λ _. refl)
    SELECT_TEXT.now _ (λ _. refl) old new rows t.texts (λ o. (select_text_is o).0) select_text_plain (λ o. (select_text_is o).1) was.schema was.rows.texts h

pub text_answer : (old new : State) (t : Tables) (path : List ℕ) (found : Option TextRow) → Holds old.now t → IsReadFirst text_of SELECT_TEXT.now (Text path ∷ []) old new found
    → (found ≡ find (has_path path) (rows_of t.texts)) × IsUnchanged old new
text_answer old new t path found was h =
    (h.is ∙ ap (λ all. slice_get all 0) (h.read.are ∙ ap (map text_of) (text_read old new t path h.read.rows was h.read.shown)) ∙ first_read text_cells text_of (λ _. refl) (has_path path) t.texts, h.read.same)

-- the row that an update makes of a row
abbrev updated : List ℕ → ℕ × TextRow → Row
updated body x = id_cell x.0 ∷ id_cell x.0 ∷ Text x.1.path ∷ Blob body ∷ []

updated_cast : (body : List ℕ) (x : ℕ × TextRow) → cast_row texts_table (drop 1 (updated body x)) ≡ stored text_cells (x.0, record x.1 { body = body })
updated_cast body x = rw (cast_int (id_int x.0))

pub changes_update_text : (old new : State) (path : List ℕ) (body : List ℕ) (r : Result ℕ Error) → ExecutesInside 0 UPDATE_TEXT.now (Text path ∷ Blob body ∷ []) old new r
    → OnOk r (Changes old new (with_new_text path body))
changes_update_text old new path body (Ok count) h = record {
  held = λ t was.
      let params = Text path ∷ Blob body ∷ [] in
      let did = updates UPDATE_TEXT.now 9 _ update_text_plain texts_table (λ _. refl) (lit≤ tt) update_text_is old new params count was.schema h.0 in
      let now = updates_rows text_cells 19 path_is update_text_columns params (λ x. has_path path x.1) (updated body)
      (λ x. last_term (at_texts false Eq x.1.path path ∙ is_eq-slice_cmp x.1.path path)) (λ _. refl) (λ _. refl) (λ _. refl)
      old new t.texts was.rows.texts did.0 did.1 (λ x. record x { body = body }) texts_table (updated_cast body) did.2 in
      record { schema = did.2.schema_is; rows = with_texts old.now.trees new.now.trees t was.rows _ now did.2.others };
  shown = h.1;
}
changes_update_text old new path body (Err e) h = tt

pub removes_texts : (old new : State) (r : Result ℕ Error) → ExecutesInside 0 DELETE_TEXTS.now [] old new r → OnOk r (Changes old new without_texts)
removes_texts old new (Ok count) h = record {
  held = λ t was.
      let did = deletes DELETE_TEXTS.now 9 _ delete_texts_plain texts_table (λ _. refl) (lit≤ tt) delete_texts_is old new [] count was.schema h.0 in
      let now = deletes_rows text_cells 19 [] delete_texts_columns [] (λ _. true) (λ x. id_cell x.0 ∷ []) (λ _. refl) (λ _. refl) (λ _. refl) (λ _. refl)
      old new t.texts was.rows.texts did.0 did.1 did.2 in
      let none = subst (λ (rows : Numbered TextRow). HasRows text_cells rows (new.now.trees 19)) (none_left t.texts) now in
      record { schema = did.2.schema_is; rows = with_texts old.now.trees new.now.trees t was.rows [] none did.2.others };
  shown = h.1;
}
removes_texts old new (Err e) h = tt
