-- What the statement that adds an item under its number does.
use Rattle.std.proofs.Common.{lit≤, ◌≡◌, ℕ, pos, ◌∷◌, Ok, Err, Result, OnOk, refl}
use Rattle.sqlite.specs.declared.types.Value.TheVariants.{Null}
use Rattle.sqlite.specs.Cast.{cast_row}
use Rattle.sqlite.specs.declared.error.Error.{Error}
use Rattle.sqlite.specs.State.{State, ExecutesInside}
use Rattle.tables.specs.Schema.{items_table}
use Rattle.tables.specs.Rows.{id_cell, id_int, Changes, item_cells, stored}
use Rattle.tables.specs.declared.rows.ItemRow.{ItemRow}
use Rattle.tables.proofs.CastLemmas.{cast_null, cast_int}
use Rattle.tables.proofs.InsertLemmas.{puts}
use Rattle.tables.proofs.HoldsLemmas.{with_items}
use Rattle.tables.proofs.ItemsLemmas.{item_params}
use Rattle.old_book.specs.Placed.{with_item_at}
use Rattle.old_book.specs.declared.items.TheConstants.{COPY_ITEM}
use Rattle.old_book.proofs.Meaning.{copy_item_terms, copy_item_is, copy_item_plain}
use Rattle.old_book.proofs.PlaceLemmas.{places_row}

item_cast : (id : ℕ) (x : ItemRow) → cast_row items_table (id_cell id ∷ Null ∷ item_params x) ≡ stored item_cells (id, x)
item_cast id x = rw (cast_null, cast_int (id_int id), cast_int (pos x.kind))

pub copies_item : (old new : State) (id : ℕ) (x : ItemRow) (r : Result ℕ Error) → ExecutesInside 0 COPY_ITEM.now (id_cell id ∷ item_params x) old new r
    → OnOk r (Changes old new (with_item_at (id, x)))
copies_item old new id x (Ok count) h = record {
  held = λ t was.
      let put =
      puts COPY_ITEM.now 6 copy_item_terms 10 copy_item_is copy_item_plain _ _ _ _ _ _ 13 (λ _. refl) (lit≤ tt)
      old new (id_cell id ∷ item_params x) (id_cell id ∷ Null ∷ item_params x) count refl was.schema h.0 in
      record {
        schema = put.schema_is;
        rows = with_items old.now.trees new.now.trees t was.rows _ (places_row item_cells items_table _ (id, x) (item_cast id x) old new put t.items was.rows.items) put.others;
      };
  shown = h.1;
}
copies_item old new id x (Err e) h = tt
