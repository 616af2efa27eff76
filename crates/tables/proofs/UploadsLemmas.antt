-- What the statements on uploads do.
use Rattle.std.proofs.Common.{lit≤, ◌≡◌, ℕ, pos, [], ◌∷◌, ◌++◌, Ok, Err, Result, OnOk, refl, List, find, drop, Option, Some, None, ap, ◌∙◌}
use Rattle.sqlite.specs.Order.{Row}
use Rattle.sqlite.specs.declared.types.Value.TheVariants.{Null, Text}
use Rattle.sqlite.specs.Cast.{cast_row}
use Rattle.sqlite.specs.Values.{or_null}
use Rattle.sqlite.specs.declared.error.Error.{Error}
use Rattle.sqlite.specs.State.{State, ExecutesInside, IsUnchanged}
use Rattle.sqlite_typed.proofs.TestLemmas.{then_term, last_term}
use Rattle.tables.specs.Reading.{IsReadFirst}
use Rattle.tables.proofs.CastLemmas.{cast_null, cast_int}
use Rattle.tables.proofs.EqualLemmas.{id_test, text_test}
use Rattle.tables.proofs.PrintLemmas.{print_test}
use Rattle.tables.proofs.InsertLemmas.{puts}
use Rattle.tables.proofs.AddLemmas.{adds_row, adds_id}
use Rattle.tables.proofs.ShownLemmas.{Shows, shown}
use Rattle.std.specs.Prelude.{nat_eq}
use Rattle.sums.specs.declared.print.Print.{Print}
use Rattle.tables.specs.Schema.{uploads_table}
use Rattle.tables.specs.Rows.{id_cell, id_int, whole, print_cells, Tables, Holds, Changes, full_upload, with_upload, upload_cells, upload_of, row_of, some_nat, stored, next_in}
use Rattle.tables.specs.Uploads.{is_upload, with_verdict, without_upload}
use Rattle.tables.specs.declared.rows.UploadRow.{UploadRow}
use Rattle.tables.specs.declared.uploads.TheConstants.{INSERT_UPLOAD, SELECT_UPLOAD, SELECT_NUMBERED, UPDATE_VERDICT, DELETE_UPLOAD}
use Rattle.tables.proofs.UploadsMeaning.{insert_upload_terms, insert_upload_is, insert_upload_plain, upload_columns, upload_is, upload_id_is, select_upload_is, select_upload_plain, select_numbered_is, select_numbered_plain, update_verdict_columns, update_verdict_is, update_verdict_plain, delete_upload_columns, delete_upload_is, delete_upload_plain}
use Rattle.tables.proofs.HoldsLemmas.{with_uploads}
use Rattle.tables.proofs.FullLemmas.{Storing, raw, raw_cells, raw_rows, value_in, full_as, full_rows_as, added_of, next_of, changed_of, first_value, deletes_full}
use Rattle.sqlite_sql.specs.Term.{eval_all}
use Rattle.tables.proofs.UpdateLemmas.{deletes, updates, updates_rows}

abbrev pub storing : Storing UploadRow
storing = record { cells = upload_cells; full = full_upload; same = λ _. refl; again = λ _ _ _. refl; none = refl }

upload_cast : (name : List ℕ) (print : Print) → cast_row uploads_table (Null ∷ (Null ∷ (Text name ∷ (print_cells print ++ Null ∷ Null ∷ [])))) ≡ Null ∷ upload_cells (record { name = name; print = print; place = None; verdict = None })
upload_cast name print = rw (cast_null, cast_int (pos print.size))

pub inserts_upload : (old new : State) (name : List ℕ) (print : Print) (count : ℕ) → ExecutesInside 0 INSERT_UPLOAD.now (Text name ∷ print_cells print) old new (Ok count)
    → Changes old new (with_upload (record { name = name; print = print; place = None; verdict = None })) × ((t : Tables) → Holds old.now t → new.last_rowid ≡ id_int (next_in t.uploads))
inserts_upload old new name print count h =
    let upload : UploadRow = record { name = name; print = print; place = None; verdict = None } in
    let put = λ (t : Tables) (was : Holds old.now t).
    puts INSERT_UPLOAD.now 4 insert_upload_terms 9 insert_upload_is insert_upload_plain _ _ _ _ _ _ 7 (λ _. refl) (lit≤ tt)
    old new (Text name ∷ print_cells print) (Null ∷ (Null ∷ (Text name ∷ (print_cells print ++ Null ∷ Null ∷ [])))) count refl was.schema h.0 in
    let raws = λ (t : Tables) (was : Holds old.now t). raw_rows storing t.uploads (old.now.trees 7) was.rows.uploads in (
      record {
        held = λ t was.
            let r = raws t was in
            let now = adds_row (raw_cells storing) uploads_table _ (raw storing upload) (upload_cast name print) old new (put t was) r.of r.has in
            record {
              schema = (put t was).schema_is;
              rows = with_uploads old.now.trees new.now.trees t was.rows _ (full_rows_as storing _ _ (new.now.trees 7) (added_of storing t.uploads r.of upload r.values) now) (put t was).others;
            };
        shown = h.1;
      },
      λ t was.
          let r = raws t was in
          adds_id (raw_cells storing) uploads_table _ (raw storing upload) (upload_cast name print) old new (put t was) r.of r.has ∙ ap id_int (next_of storing t.uploads r.of r.values),
    )

upload_back : (x : ℕ × UploadRow) → upload_of (shown upload_cells x) ≡ x.1
upload_back x =
    let place = elim x.1.place as (λ p. some_nat (or_null whole p) ≡ p) [ None ↦ refl | Some n ↦ refl ] in
    let verdict = elim x.1.verdict as (λ v. some_nat (or_null whole v) ≡ v) [ None ↦ refl | Some n ↦ refl ] in
    λ i. record x.1 { place = place i; verdict = verdict i }

upload_shows : (name : List ℕ) (print : Print) → Shows upload_cells 7 upload_is upload_columns (Text name ∷ print_cells print) (λ x. is_upload name print x.1) (shown upload_cells) SELECT_UPLOAD.now
upload_shows name print = record { names = _; is = (λ o. (select_upload_is o).0); plain = select_upload_plain; unlisted = (λ o. (select_upload_is o).1); tests = λ x. then_term (text_test x.1.name name) (print_test x.1.print print); shows = λ _. refl; real = λ _. refl }

pub upload_answer : (old new : State) (t : Tables) (name : List ℕ) (print : Print) (found : Option (ℕ × UploadRow)) → Holds old.now t → IsReadFirst (row_of upload_of) SELECT_UPLOAD.now (Text name ∷ print_cells print) old new found
    → (found ≡ find (λ x. is_upload name print x.1) t.uploads) × IsUnchanged old new
upload_answer old new t name print found was h =
    first_value storing 7 upload_is upload_columns (Text name ∷ print_cells print) SELECT_UPLOAD.now old new t.uploads was.schema was.rows.uploads (λ x. is_upload name print x.1) upload_of upload_back (upload_shows name print)
    (record { tests = λ _. refl; shows = λ _. refl }) found h

numbered_show : (id : ℕ) → Shows upload_cells 7 upload_id_is upload_columns (id_cell id ∷ []) (λ x. nat_eq x.0 id) (shown upload_cells) SELECT_NUMBERED.now
numbered_show id = record { names = _; is = (λ o. (select_numbered_is o).0); plain = select_numbered_plain; unlisted = (λ o. (select_numbered_is o).1); tests = λ x. last_term (id_test x.0 id); shows = λ _. refl; real = λ _. refl }

pub numbered_answer : (old new : State) (t : Tables) (id : ℕ) (found : Option (ℕ × UploadRow)) → Holds old.now t → IsReadFirst (row_of upload_of) SELECT_NUMBERED.now (id_cell id ∷ []) old new found
    → (found ≡ find (λ x. nat_eq x.0 id) t.uploads) × IsUnchanged old new
numbered_answer old new t id found was h =
    first_value storing 7 upload_id_is upload_columns (id_cell id ∷ []) SELECT_NUMBERED.now old new t.uploads was.schema was.rows.uploads (λ x. nat_eq x.0 id) upload_of upload_back (numbered_show id)
    (record { tests = λ _. refl; shows = λ _. refl }) found h

-- the row that an update makes of a row
abbrev updated : ℕ → ℕ → ℕ × UploadRow → Row
updated place verdict x = id_cell x.0 ∷ id_cell x.0 ∷ Null ∷ Text x.1.name ∷ (print_cells x.1.print ++ whole place ∷ whole verdict ∷ [])

abbrev judged : ℕ → ℕ → UploadRow → UploadRow
judged place verdict x = record x { place = Some place; verdict = Some verdict }

updated_cast : (place verdict : ℕ) (x : ℕ × UploadRow) → cast_row uploads_table (drop 1 (updated place verdict x)) ≡ stored upload_cells (x.0, judged place verdict x.1)
updated_cast place verdict x = rw (cast_null, cast_int (id_int x.0), cast_int (pos x.1.print.size), cast_int (pos place), cast_int (pos verdict))

pub changes_verdict : (old new : State) (id place verdict : ℕ) (r : Result ℕ Error) → ExecutesInside 0 UPDATE_VERDICT.now (id_cell id ∷ whole place ∷ whole verdict ∷ []) old new r
    → OnOk r (Changes old new (with_verdict id place verdict))
changes_verdict old new id place verdict (Ok count) h = record {
  held = λ t was.
      let params = id_cell id ∷ whole place ∷ whole verdict ∷ [] in
      let did = updates UPDATE_VERDICT.now 4 _ update_verdict_plain uploads_table (λ _. refl) (lit≤ tt) update_verdict_is old new params count was.schema h.0 in
      let r = raw_rows storing t.uploads (old.now.trees 7) was.rows.uploads in
      let now = updates_rows (raw_cells storing) 7 upload_id_is update_verdict_columns params (λ x. nat_eq x.0 id) (λ x. updated place verdict (value_in storing x))
      (λ x. last_term (id_test x.0 id)) (λ x. ap (λ row. eval_all update_verdict_columns (params ∷ row ∷ [])) (full_as storing x)) (λ _. refl) (λ _. refl)
      old new r.of r.has did.0 did.1 (λ k. raw storing (judged place verdict k.value)) uploads_table (λ x. updated_cast place verdict (value_in storing x)) did.2 in
      let same = changed_of storing t.uploads r.of (λ x. nat_eq x.0 id) (judged place verdict) (λ k. raw storing (judged place verdict k.value)) (λ _. refl) r.values in
      record { schema = did.2.schema_is; rows = with_uploads old.now.trees new.now.trees t was.rows _ (full_rows_as storing _ _ (new.now.trees 7) same now) did.2.others };
  shown = h.1;
}
changes_verdict old new id place verdict (Err e) h = tt

pub removes_upload : (old new : State) (id : ℕ) (r : Result ℕ Error) → ExecutesInside 0 DELETE_UPLOAD.now (id_cell id ∷ []) old new r → OnOk r (Changes old new (without_upload id))
removes_upload old new id (Ok count) h = record {
  held = λ t was.
      let params = id_cell id ∷ [] in
      let did = deletes DELETE_UPLOAD.now 4 _ delete_upload_plain uploads_table (λ _. refl) (lit≤ tt) delete_upload_is old new params count was.schema h.0 in
      let now = deletes_full storing 7 upload_id_is delete_upload_columns params (λ x. nat_eq x.0 id) (λ x. id_cell x.0 ∷ []) (record { tests = λ _. refl; shows = λ _. refl })
      (λ x. last_term (id_test x.0 id)) (λ _. refl) (λ _. refl) (λ _. refl)
      old new t.uploads was.rows.uploads did.0 did.1 did.2 in
      record { schema = did.2.schema_is; rows = with_uploads old.now.trees new.now.trees t was.rows _ now did.2.others };
  shown = h.1;
}
removes_upload old new id (Err e) h = tt
