-- What the statements on refs do.
use Rattle.std.proofs.Common.{lit≤, ◌≡◌, ℕ, pos, [], ◌∷◌, Ok, Err, Result, OnOk, refl, List, filter}
use Rattle.sqlite.specs.declared.types.Value.TheVariants.{Null}
use Rattle.sqlite.specs.Cast.{cast_row}
use Rattle.sqlite.specs.declared.error.Error.{Error}
use Rattle.sqlite.specs.State.{State, ExecutesInside, IsUnchanged}
use Rattle.sqlite_typed.proofs.TestLemmas.{last_term}
use Rattle.tables.specs.Reading.{IsRead}
use Rattle.tables.proofs.CastLemmas.{cast_null, cast_int}
use Rattle.tables.proofs.EqualLemmas.{id_test, id_back}
use Rattle.tables.proofs.InsertLemmas.{puts}
use Rattle.tables.proofs.AddLemmas.{adds_row}
use Rattle.tables.proofs.ShownLemmas.{Shows, reads_stored}
use Rattle.tables.specs.Schema.{refs_table}
use Rattle.tables.specs.Rows.{id_cell, id_int, Tables, Holds, Changes, with_ref, ref_cells, ref_of, stored, rows_of}
use Rattle.tables.specs.Refs.{is_ref_of, without_refs}
use Rattle.tables.specs.declared.rows.Ref.{Ref}
use Rattle.tables.specs.declared.refs.TheConstants.{INSERT_REF, SELECT_REFS_OF, DELETE_REFS}
use Rattle.tables.proofs.RefsMeaning.{insert_ref_terms, insert_ref_is, insert_ref_plain, ref_columns, ref_item_is, select_refs_of_is, select_refs_of_plain, delete_refs_columns, delete_refs_is, delete_refs_plain}
use Rattle.tables.proofs.HoldsLemmas.{with_refs}
use Rattle.tables.proofs.UpdateLemmas.{deletes, deletes_rows}

ref_cast : (x : Ref) → cast_row refs_table (Null ∷ ref_cells x) ≡ Null ∷ ref_cells x
ref_cast x = rw (cast_null, cast_int (id_int x.item), cast_int (pos x.number), cast_int (pos x.print.size))

pub inserts_ref : (old new : State) (x : Ref) (r : Result ℕ Error) → ExecutesInside 0 INSERT_REF.now (ref_cells x) old new r
    → OnOk r (Changes old new (with_ref x))
inserts_ref old new x (Ok count) h = record {
  held = λ t was.
      let put = puts INSERT_REF.now 7 insert_ref_terms 8 insert_ref_is insert_ref_plain _ _ _ _ _ _ 15 (λ _. refl) (lit≤ tt)
      old new (ref_cells x) (Null ∷ ref_cells x) count refl was.schema h.0 in
      record { schema = put.schema_is; rows = with_refs old.now.trees new.now.trees t was.rows _ (adds_row ref_cells refs_table _ x (ref_cast x) old new put t.refs was.rows.refs) put.others };
  shown = h.1;
}
inserts_ref old new x (Err e) h = tt

refs_of_show : (item : ℕ) → Shows ref_cells 15 ref_item_is ref_columns (id_cell item ∷ []) (λ x. is_ref_of item x.1) (stored ref_cells) SELECT_REFS_OF.now
refs_of_show item = record { names = _; is = (λ o. (select_refs_of_is o).0); plain = select_refs_of_plain; unlisted = (λ o. (select_refs_of_is o).1); tests = λ x. last_term (id_test x.1.item item); shows = λ _. refl; real = λ _. refl }

pub refs_of_answer : (old new : State) (t : Tables) (item : ℕ) (all : List Ref) → Holds old.now t → IsRead ref_of SELECT_REFS_OF.now (id_cell item ∷ []) old new all
    → (all ≡ filter (is_ref_of item) (rows_of t.refs)) × IsUnchanged old new
refs_of_answer old new t item all was h =
    reads_stored ref_cells 15 ref_item_is ref_columns (id_cell item ∷ []) SELECT_REFS_OF.now old new t.refs was.schema was.rows.refs (is_ref_of item) ref_of (λ x. λ i. record x.1 { item = id_back x.1.item i }) (refs_of_show item) all h

pub removes_refs : (old new : State) (item : ℕ) (r : Result ℕ Error) → ExecutesInside 0 DELETE_REFS.now (id_cell item ∷ []) old new r → OnOk r (Changes old new (without_refs item))
removes_refs old new item (Ok count) h = record {
  held = λ t was.
      let params = id_cell item ∷ [] in
      let did = deletes DELETE_REFS.now 7 _ delete_refs_plain refs_table (λ _. refl) (lit≤ tt) delete_refs_is old new params count was.schema h.0 in
      let now = deletes_rows ref_cells 15 ref_item_is delete_refs_columns params (λ x. is_ref_of item x.1) (λ x. id_cell x.0 ∷ [])
      (λ x. last_term (id_test x.1.item item)) (λ _. refl) (λ _. refl) (λ _. refl)
      old new t.refs was.rows.refs did.0 did.1 did.2 in
      record { schema = did.2.schema_is; rows = with_refs old.now.trees new.now.trees t was.rows _ now did.2.others };
  shown = h.1;
}
removes_refs old new item (Err e) h = tt
