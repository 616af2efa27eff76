-- What the statements on items do.
use Rattle.std.proofs.Common.{lit≤, ◌≡◌, ℕ, pos, [], ◌∷◌, Ok, Err, Result, OnOk, refl, true, false, List, find, Bool, Option, ◌∙◌}
use Rattle.sqlite.specs.Order.{Row}
use Rattle.sqlite.specs.declared.types.Value.TheVariants.{Null, Text, Blob}
use Rattle.sqlite.specs.Cast.{cast_row}
use Rattle.sqlite.specs.declared.error.Error.{Error}
use Rattle.sqlite.specs.State.{State, ExecutesInside, IsUnchanged}
use Rattle.sqlite_typed.proofs.TestLemmas.{then_term, last_term}
use Rattle.sqlite_typed.proofs.AnswerLemmas.{unfiltered}
use Rattle.tables.specs.Reading.{IsRead, IsReadFirst}
use Rattle.tables.proofs.CastLemmas.{cast_null, cast_int}
use Rattle.tables.proofs.EqualLemmas.{id_test, whole_test, text_test}
use Rattle.tables.proofs.InsertLemmas.{puts}
use Rattle.tables.proofs.AddLemmas.{adds_row, adds_id}
use Rattle.tables.proofs.ShownLemmas.{Shows, shown, reads_shown, first_shown}
use Rattle.std.specs.Prelude.{nat_eq, bytes_eq, ◌&&◌}
use Rattle.tables.specs.Schema.{items_table}
use Rattle.tables.specs.Rows.{id_cell, id_int, whole, Tables, Holds, Changes, with_item, item_cells, item_of, row_of, next_in}
use Rattle.tables.specs.Items.{is_item, without_item}
use Rattle.tables.specs.declared.rows.ItemRow.{ItemRow}
use Rattle.tables.specs.declared.items.TheConstants.{INSERT_ITEM, SELECT_ITEMS, SELECT_ITEM, DELETE_ITEM}
use Rattle.tables.proofs.ItemsMeaning.{insert_item_terms, insert_item_is, insert_item_plain, item_columns, item_is, item_id_is, select_items_is, select_items_plain, select_item_is, select_item_plain, delete_item_columns, delete_item_is, delete_item_plain}
use Rattle.tables.proofs.HoldsLemmas.{with_items}
use Rattle.tables.proofs.UpdateLemmas.{deletes, deletes_rows}

abbrev pub item_params : ItemRow → Row
item_params x = Text x.suite ∷ whole x.kind ∷ Text x.«package» ∷ Text x.architecture ∷ Text x.version ∷ Text x.component ∷ Text x.source ∷ Blob x.paragraph ∷ []

abbrev key_params : List ℕ → ℕ → List ℕ → List ℕ → Row
key_params suite kind name architecture = Text suite ∷ whole kind ∷ Text name ∷ Text architecture ∷ []

item_cast : (x : ItemRow) → cast_row items_table (Null ∷ Null ∷ item_params x) ≡ Null ∷ item_cells x
item_cast x = rw (cast_null, cast_int (pos x.kind))

pub inserts_item : (old new : State) (x : ItemRow) (count : ℕ) → ExecutesInside 0 INSERT_ITEM.now (item_params x) old new (Ok count)
    → Changes old new (with_item x) × ((t : Tables) → Holds old.now t → new.last_rowid ≡ id_int (next_in t.items))
inserts_item old new x count h =
    let put = λ (t : Tables) (was : Holds old.now t).
    puts INSERT_ITEM.now 6 insert_item_terms 10 insert_item_is insert_item_plain _ _ _ _ _ _ 13 (λ _. refl) (lit≤ tt)
    old new (item_params x) (Null ∷ Null ∷ item_params x) count refl was.schema h.0 in (
      record {
        held = λ t was. record {
          schema = (put t was).schema_is;
          rows = with_items old.now.trees new.now.trees t was.rows _ (adds_row item_cells items_table _ x (item_cast x) old new (put t was) t.items was.rows.items) (put t was).others;
        };
        shown = h.1;
      },
      λ t was. adds_id item_cells items_table _ x (item_cast x) old new (put t was) t.items was.rows.items,
    )

items_show : Shows item_cells 13 [] item_columns [] (λ _. true) (shown item_cells) SELECT_ITEMS.now
items_show = record { names = _; is = (λ o. (select_items_is o).0); plain = select_items_plain; unlisted = (λ o. (select_items_is o).1); tests = λ _. refl; shows = λ _. refl; real = λ _. refl }

pub items_answer : (old new : State) (t : Tables) (all : List (ℕ × ItemRow)) → Holds old.now t → IsRead (row_of item_of) SELECT_ITEMS.now [] old new all
    → (all ≡ t.items) × IsUnchanged old new
items_answer old new t all was h =
    let done = reads_shown item_cells 13 [] item_columns [] SELECT_ITEMS.now old new t.items was.schema was.rows.items (λ _. true) item_of (λ _. refl) items_show all h in
    (unfiltered t.items done.0, done.1)

-- `&&` in the order in which WHERE has it, and in that of the definition
nested : (s k n a : Bool) → (s && (k && (n && a))) ≡ (((s && k) && n) && a)
nested true true n a = refl
nested true false n a = refl
nested false k n a = refl

item_shows : (suite : List ℕ) (kind : ℕ) (name : List ℕ) (architecture : List ℕ) → Shows item_cells 13 item_is item_columns (key_params suite kind name architecture) (λ x. is_item suite kind name architecture x.1) (shown item_cells) SELECT_ITEM.now
item_shows suite kind name architecture = record {
  names = _;
  is = (λ o. (select_item_is o).0);
  plain = select_item_plain;
  unlisted = (λ o. (select_item_is o).1);
  tests = λ x.
      then_term (text_test x.1.suite suite) (then_term (whole_test x.1.kind kind) (then_term (text_test x.1.«package» name) (last_term (text_test x.1.architecture architecture))))
      ∙ nested (bytes_eq x.1.suite suite) (nat_eq x.1.kind kind) (bytes_eq x.1.«package» name) (bytes_eq x.1.architecture architecture);
  shows = λ _. refl;
  real = λ _. refl;
}

pub item_answer : (old new : State) (t : Tables) (suite : List ℕ) (kind : ℕ) (name : List ℕ) (architecture : List ℕ) (found : Option (ℕ × ItemRow)) → Holds old.now t → IsReadFirst (row_of item_of) SELECT_ITEM.now (key_params suite kind name architecture) old new found
    → (found ≡ find (λ x. is_item suite kind name architecture x.1) t.items) × IsUnchanged old new
item_answer old new t suite kind name architecture found was h =
    first_shown item_cells 13 item_is item_columns (key_params suite kind name architecture) SELECT_ITEM.now old new t.items was.schema was.rows.items (λ x. is_item suite kind name architecture x.1) item_of (λ _. refl) (item_shows suite kind name architecture) found h

pub removes_item : (old new : State) (id : ℕ) (r : Result ℕ Error) → ExecutesInside 0 DELETE_ITEM.now (id_cell id ∷ []) old new r → OnOk r (Changes old new (without_item id))
removes_item old new id (Ok count) h = record {
  held = λ t was.
      let params = id_cell id ∷ [] in
      let did = deletes DELETE_ITEM.now 6 _ delete_item_plain items_table (λ _. refl) (lit≤ tt) delete_item_is old new params count was.schema h.0 in
      let now = deletes_rows item_cells 13 item_id_is delete_item_columns params (λ x. nat_eq x.0 id) (λ x. id_cell x.0 ∷ [])
      (λ x. last_term (id_test x.0 id)) (λ _. refl) (λ _. refl) (λ _. refl)
      old new t.items was.rows.items did.0 did.1 did.2 in
      record { schema = did.2.schema_is; rows = with_items old.now.trees new.now.trees t was.rows _ now did.2.others };
  shown = h.1;
}
removes_item old new id (Err e) h = tt
