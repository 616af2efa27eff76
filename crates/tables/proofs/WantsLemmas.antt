-- What the statements on wants do.
use Rattle.std.proofs.Common.{◌∙◌, lit≤, ◌≡◌, ℕ, pos, [], ◌∷◌, ◌++◌, Ok, Err, Result, OnOk, refl, true, false, List, filter, drop, Bool, if◌then◌else◌}
use Rattle.sqlite.specs.Order.{Row}
use Rattle.sqlite.specs.declared.types.Value.TheVariants.{Null, Text}
use Rattle.sqlite.specs.Cast.{cast_row}
use Rattle.sqlite.specs.declared.error.Error.{Error}
use Rattle.sqlite.specs.State.{State, ExecutesInside, IsUnchanged}
use Rattle.sqlite_typed.proofs.TestLemmas.{then_term, last_term}
use Rattle.tables.specs.Reading.{IsRead}
use Rattle.tables.proofs.CastLemmas.{cast_null, cast_int}
use Rattle.tables.proofs.EqualLemmas.{id_test, id_back, text_test}
use Rattle.tables.proofs.PrintLemmas.{print_test}
use Rattle.tables.proofs.InsertLemmas.{puts}
use Rattle.tables.proofs.AddLemmas.{adds_row}
use Rattle.tables.proofs.ShownLemmas.{Shows, reads_stored}
use Rattle.sums.specs.declared.print.Print.{Print}
use Rattle.tables.specs.Schema.{wants_table}
use Rattle.tables.specs.Rows.{id_cell, id_int, whole, flag, print_cells, Tables, Holds, Changes, with_want, want_cells, want_of, stored, rows_of}
use Rattle.tables.specs.Wants.{is_wanted_by, is_want, with_away, with_here, without_wants}
use Rattle.tables.specs.declared.rows.Want.{Want}
use Rattle.tables.specs.declared.wants.TheConstants.{INSERT_WANT, SELECT_WANTS_OF, UPDATE_HERE, UPDATE_AWAY, DELETE_WANTS}
use Rattle.tables.proofs.WantsMeaning.{insert_want_terms, insert_want_is, insert_want_plain, want_columns, want_upload_is, want_is, select_wants_of_is, select_wants_of_plain, update_here_columns, update_here_is, update_here_plain, update_away_columns, update_away_is, update_away_plain, delete_wants_columns, delete_wants_is, delete_wants_plain}
use Rattle.tables.proofs.HoldsLemmas.{with_wants}
use Rattle.tables.proofs.UpdateLemmas.{updates, updates_rows, deletes, deletes_rows}

want_cast : (upload : ℕ) (name : List ℕ) (print : Print) (here : Bool) → cast_row wants_table (Null ∷ (id_cell upload ∷ Text name ∷ (print_cells print ++ flag here ∷ []))) ≡ Null ∷ want_cells (record { upload = upload; name = name; print = print; here = here })
want_cast upload name print here = rw (cast_null, cast_int (id_int upload), cast_int (pos print.size), cast_int (if here then pos 1 else pos 0))

pub inserts_want : (old new : State) (upload : ℕ) (name : List ℕ) (print : Print) (here : Bool) (r : Result ℕ Error) → ExecutesInside 0 INSERT_WANT.now (id_cell upload ∷ Text name ∷ (print_cells print ++ flag here ∷ [])) old new r
    → OnOk r (Changes old new (with_want (record { upload = upload; name = name; print = print; here = here })))
inserts_want old new upload name print here (Ok count) h = record {
  held = λ t was.
      let put = puts INSERT_WANT.now 5 insert_want_terms 8 insert_want_is insert_want_plain _ _ _ _ _ _ 10 (λ _. refl) (lit≤ tt)
      old new (id_cell upload ∷ Text name ∷ (print_cells print ++ flag here ∷ [])) (Null ∷ (id_cell upload ∷ Text name ∷ (print_cells print ++ flag here ∷ []))) count refl was.schema h.0 in
      record { schema = put.schema_is; rows = with_wants old.now.trees new.now.trees t was.rows _ (adds_row want_cells wants_table _ (record { upload = upload; name = name; print = print; here = here }) (want_cast upload name print here) old new put t.wants was.rows.wants) put.others };
  shown = h.1;
}
inserts_want old new upload name print here (Err e) h = tt

want_back : (x : ℕ × Want) → want_of (stored want_cells x) ≡ x.1
want_back x =
    (λ i. record (want_of (stored want_cells x)) { upload = id_back x.1.upload i })
    ∙ elim x.1.here as (λ b. record (want_of (stored want_cells (x.0, record x.1 { here = b }))) { upload = x.1.upload } ≡ record x.1 { here = b }) [ true ↦ refl | false ↦ refl ]

wants_of_show : (upload : ℕ) → Shows want_cells 10 want_upload_is want_columns (id_cell upload ∷ []) (λ x. is_wanted_by upload x.1) (stored want_cells) SELECT_WANTS_OF.now
wants_of_show upload = record { names = _; is = (λ o. (select_wants_of_is o).0); plain = select_wants_of_plain; unlisted = (λ o. (select_wants_of_is o).1); tests = λ x. last_term (id_test x.1.upload upload); shows = λ _. refl; real = λ _. refl }

pub wants_of_answer : (old new : State) (t : Tables) (upload : ℕ) (all : List Want) → Holds old.now t → IsRead want_of SELECT_WANTS_OF.now (id_cell upload ∷ []) old new all
    → (all ≡ filter (is_wanted_by upload) (rows_of t.wants)) × IsUnchanged old new
wants_of_answer old new t upload all was h =
    reads_stored want_cells 10 want_upload_is want_columns (id_cell upload ∷ []) SELECT_WANTS_OF.now old new t.wants was.schema was.rows.wants (is_wanted_by upload) want_of want_back (wants_of_show upload) all h

-- the row that an update makes of a row
abbrev updated : ℕ × Want → Row
updated x = id_cell x.0 ∷ id_cell x.0 ∷ id_cell x.1.upload ∷ Text x.1.name ∷ (print_cells x.1.print ++ whole 1 ∷ [])

updated_cast : (x : ℕ × Want) → cast_row wants_table (drop 1 (updated x)) ≡ stored want_cells (x.0, record x.1 { here = true })
updated_cast x = rw (cast_int (id_int x.0), cast_int (id_int x.1.upload), cast_int (pos x.1.print.size), cast_int (pos 1))

pub changes_here : (old new : State) (name : List ℕ) (print : Print) (r : Result ℕ Error) → ExecutesInside 0 UPDATE_HERE.now (Text name ∷ print_cells print) old new r
    → OnOk r (Changes old new (with_here name print))
changes_here old new name print (Ok count) h = record {
  held = λ t was.
      let params = Text name ∷ print_cells print in
      let did = updates UPDATE_HERE.now 5 _ update_here_plain wants_table (λ _. refl) (lit≤ tt) update_here_is old new params count was.schema h.0 in
      let now = updates_rows want_cells 10 want_is update_here_columns params (λ x. is_want name print x.1) updated
      (λ x. then_term (text_test x.1.name name) (print_test x.1.print print)) (λ _. refl) (λ _. refl) (λ _. refl)
      old new t.wants was.rows.wants did.0 did.1 (λ x. record x { here = true }) wants_table updated_cast did.2 in
      record { schema = did.2.schema_is; rows = with_wants old.now.trees new.now.trees t was.rows _ now did.2.others };
  shown = h.1;
}
changes_here old new name print (Err e) h = tt

-- the row that the other update makes of a row
abbrev updated_away : ℕ × Want → Row
updated_away x = id_cell x.0 ∷ id_cell x.0 ∷ id_cell x.1.upload ∷ Text x.1.name ∷ (print_cells x.1.print ++ whole 0 ∷ [])

away_cast : (x : ℕ × Want) → cast_row wants_table (drop 1 (updated_away x)) ≡ stored want_cells (x.0, record x.1 { here = false })
away_cast x = rw (cast_int (id_int x.0), cast_int (id_int x.1.upload), cast_int (pos x.1.print.size), cast_int (pos 0))

pub changes_away : (old new : State) (name : List ℕ) (print : Print) (r : Result ℕ Error) → ExecutesInside 0 UPDATE_AWAY.now (Text name ∷ print_cells print) old new r
    → OnOk r (Changes old new (with_away name print))
changes_away old new name print (Ok count) h = record {
  held = λ t was.
      let params = Text name ∷ print_cells print in
      let did = updates UPDATE_AWAY.now 5 _ update_away_plain wants_table (λ _. refl) (lit≤ tt) update_away_is old new params count was.schema h.0 in
      let now = updates_rows want_cells 10 want_is update_away_columns params (λ x. is_want name print x.1) updated_away
      (λ x. then_term (text_test x.1.name name) (print_test x.1.print print)) (λ _. refl) (λ _. refl) (λ _. refl)
      old new t.wants was.rows.wants did.0 did.1 (λ x. record x { here = false }) wants_table away_cast did.2 in
      record { schema = did.2.schema_is; rows = with_wants old.now.trees new.now.trees t was.rows _ now did.2.others };
  shown = h.1;
}
changes_away old new name print (Err e) h = tt

pub changes_wants : (old new : State) (upload : ℕ) (r : Result ℕ Error) → ExecutesInside 0 DELETE_WANTS.now (id_cell upload ∷ []) old new r → OnOk r (Changes old new (without_wants upload))
changes_wants old new upload (Ok count) h = record {
  held = λ t was.
      let params = id_cell upload ∷ [] in
      let did = deletes DELETE_WANTS.now 5 _ delete_wants_plain wants_table (λ _. refl) (lit≤ tt) delete_wants_is old new params count was.schema h.0 in
      let now = deletes_rows want_cells 10 want_upload_is delete_wants_columns params (λ x. is_wanted_by upload x.1) (λ x. id_cell x.0 ∷ [])
      (λ x. last_term (id_test x.1.upload upload)) (λ _. refl) (λ _. refl) (λ _. refl)
      old new t.wants was.rows.wants did.0 did.1 did.2 in
      record { schema = did.2.schema_is; rows = with_wants old.now.trees new.now.trees t was.rows _ now did.2.others };
  shown = h.1;
}
changes_wants old new upload (Err e) h = tt
