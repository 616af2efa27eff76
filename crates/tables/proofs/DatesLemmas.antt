-- What the statements on dates do.
use Rattle.std.proofs.Common.{lit≤, ◌≡◌, ℕ, pos, [], ◌∷◌, Ok, Err, Result, OnOk, refl, false, List, drop, ◌∙◌, true, subst}
use Rattle.sqlite.specs.Order.{Row}
use Rattle.sqlite.specs.declared.types.Value.TheVariants.{Null, Text}
use Rattle.sqlite.specs.Cast.{cast_row}
use Rattle.sqlite.specs.declared.error.Error.{Error}
use Rattle.sqlite.specs.State.{State, ExecutesInside}
use Rattle.tables.specs.Schema.{dates_table}
use Rattle.tables.specs.Rows.{id_cell, id_int, whole, Changes, with_date, date_cells, stored, HasRows, Numbered}
use Rattle.tables.specs.Dates.{has_suite, with_new_date, without_dates}
use Rattle.tables.specs.declared.rows.Date.{Date}
use Rattle.tables.specs.declared.dates.TheConstants.{INSERT_DATE, UPDATE_DATE, DELETE_DATES}
use Rattle.tables.proofs.CastLemmas.{cast_null, cast_int}
use Rattle.tables.proofs.DatesMeaning.{insert_date_terms, insert_date_is, insert_date_plain, update_date_columns, update_date_is, update_date_plain, suite_is, delete_dates_columns, delete_dates_is, delete_dates_plain}
use Rattle.tables.proofs.InsertLemmas.{puts}
use Rattle.tables.proofs.AddLemmas.{adds_row}
use Rattle.tables.proofs.HoldsLemmas.{with_dates}
use Rattle.tables.proofs.DeleteLemmas.{none_left}
use Rattle.tables.proofs.UpdateLemmas.{updates, updates_rows, deletes, deletes_rows}
use Rattle.sqlite_typed.proofs.TestLemmas.{last_term, at_texts}
use Rattle.std.proofs.lemmas.Map.Text.{is_eq-slice_cmp}
use Rattle.sqlite_sql.specs.declared.ops.CompareOp.TheVariants.{Eq}

abbrev pub date_params : Date → Row
date_params x = Text x.suite ∷ whole x.moment ∷ []

date_cast : (x : Date) → cast_row dates_table (Null ∷ date_params x) ≡ Null ∷ date_cells x
date_cast x = rw (cast_null, cast_int (pos x.moment))

pub changes_insert_date : (old new : State) (x : Date) (r : Result ℕ Error) → ExecutesInside 0 INSERT_DATE.now (date_params x) old new r → OnOk r (Changes old new (with_date x))
changes_insert_date old new x (Ok count) h = record {
  held = λ t was.
      let put = puts INSERT_DATE.now 10 insert_date_terms 3 insert_date_is insert_date_plain _ _ _ _ _ _ 21 (λ _. refl) (lit≤ tt)
      old new (date_params x) (Null ∷ date_params x) count refl was.schema h.0 in
      record { schema = put.schema_is; rows = with_dates old.now.trees new.now.trees t was.rows _ (adds_row date_cells dates_table _ x (date_cast x) old new put t.dates was.rows.dates) put.others };
  shown = h.1;
}
changes_insert_date old new x (Err e) h = tt

-- the row that an update makes of a row
abbrev updated : ℕ → ℕ × Date → Row
updated moment x = id_cell x.0 ∷ id_cell x.0 ∷ Text x.1.suite ∷ whole moment ∷ []

updated_cast : (moment : ℕ) (x : ℕ × Date) → cast_row dates_table (drop 1 (updated moment x)) ≡ stored date_cells (x.0, record x.1 { moment = moment })
updated_cast moment x = rw (cast_int (id_int x.0), cast_int (pos moment))

pub changes_update_date : (old new : State) (suite : List ℕ) (moment : ℕ) (r : Result ℕ Error) → ExecutesInside 0 UPDATE_DATE.now (Text suite ∷ whole moment ∷ []) old new r
    → OnOk r (Changes old new (with_new_date suite moment))
changes_update_date old new suite moment (Ok count) h = record {
  held = λ t was.
      let params = Text suite ∷ whole moment ∷ [] in
      let did = updates UPDATE_DATE.now 10 _ update_date_plain dates_table (λ _. refl) (lit≤ tt) update_date_is old new params count was.schema h.0 in
      let now = updates_rows date_cells 21 suite_is update_date_columns params (λ x. has_suite suite x.1) (updated moment)
      (λ x. last_term (at_texts false Eq x.1.suite suite ∙ is_eq-slice_cmp x.1.suite suite)) (λ _. refl) (λ _. refl) (λ _. refl)
      old new t.dates was.rows.dates did.0 did.1 (λ x. record x { moment = moment }) dates_table (updated_cast moment) did.2 in
      record { schema = did.2.schema_is; rows = with_dates old.now.trees new.now.trees t was.rows _ now did.2.others };
  shown = h.1;
}
changes_update_date old new suite moment (Err e) h = tt

pub removes_dates : (old new : State) (r : Result ℕ Error) → ExecutesInside 0 DELETE_DATES.now [] old new r → OnOk r (Changes old new without_dates)
removes_dates old new (Ok count) h = record {
  held = λ t was.
      let did = deletes DELETE_DATES.now 10 _ delete_dates_plain dates_table (λ _. refl) (lit≤ tt) delete_dates_is old new [] count was.schema h.0 in
      let now = deletes_rows date_cells 21 [] delete_dates_columns [] (λ _. true) (λ x. id_cell x.0 ∷ []) (λ _. refl) (λ _. refl) (λ _. refl) (λ _. refl)
      old new t.dates was.rows.dates did.0 did.1 did.2 in
      let none = subst (λ (rows : Numbered Date). HasRows date_cells rows (new.now.trees 21)) (none_left t.dates) now in
      record { schema = did.2.schema_is; rows = with_dates old.now.trees new.now.trees t was.rows [] none did.2.others };
  shown = h.1;
}
removes_dates old new (Err e) h = tt
