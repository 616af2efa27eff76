-- What the statements on the one row of `meta` do.
use Rattle.std.proofs.Common.{lit≤, ◌≡◌, ℕ, pos, [], ◌∷◌, Ok, Err, Result, OnOk, refl, true, drop, List}
use Rattle.sqlite.specs.Order.{Row}
use Rattle.sqlite.specs.declared.types.Value.TheVariants.{Null, Blob}
use Rattle.sqlite.specs.Cast.{cast_row}
use Rattle.sqlite.specs.declared.error.Error.{Error}
use Rattle.sqlite.specs.State.{State, ExecutesInside}
use Rattle.tables.specs.Schema.{meta_table}
use Rattle.tables.specs.Rows.{id_cell, id_int, whole, Changes, with_meta, meta_cells, stored}
use Rattle.tables.specs.Metas.{with_configuration}
use Rattle.tables.specs.declared.rows.Meta.{Meta}
use Rattle.tables.specs.declared.meta.TheConstants.{INSERT_META, UPDATE_META}
use Rattle.tables.proofs.CastLemmas.{cast_null, cast_int}
use Rattle.tables.proofs.MetaMeaning.{insert_meta_terms, insert_meta_is, insert_meta_plain, update_meta_columns, update_meta_is, update_meta_plain}
use Rattle.tables.proofs.InsertLemmas.{puts}
use Rattle.tables.proofs.AddLemmas.{adds_row}
use Rattle.tables.proofs.HoldsLemmas.{with_meta as holds_with_meta}
use Rattle.tables.proofs.UpdateLemmas.{updates, updates_rows}

abbrev pub meta_params : Meta → Row
meta_params x = whole x.version ∷ Blob x.configuration ∷ []

meta_cast : (x : Meta) → cast_row meta_table (Null ∷ meta_params x) ≡ Null ∷ meta_cells x
meta_cast x = rw (cast_null, cast_int (pos x.version))

pub changes_insert_meta : (old new : State) (x : Meta) (r : Result ℕ Error) → ExecutesInside 0 INSERT_META.now (meta_params x) old new r → OnOk r (Changes old new (with_meta x))
changes_insert_meta old new x (Ok count) h = record {
  held = λ t was.
      let put = puts INSERT_META.now 0 insert_meta_terms 3 insert_meta_is insert_meta_plain _ _ _ _ _ _ 0 (λ _. refl) (lit≤ tt)
      old new (meta_params x) (Null ∷ meta_params x) count refl was.schema h.0 in
      record { schema = put.schema_is; rows = holds_with_meta old.now.trees new.now.trees t was.rows _ (adds_row meta_cells meta_table _ x (meta_cast x) old new put t.meta was.rows.meta) put.others };
  shown = h.1;
}
changes_insert_meta old new x (Err e) h = tt

-- the row that an update makes of a row
abbrev updated : List ℕ → ℕ × Meta → Row
updated configuration x = id_cell x.0 ∷ id_cell x.0 ∷ whole x.1.version ∷ Blob configuration ∷ []

updated_cast : (configuration : List ℕ) (x : ℕ × Meta) → cast_row meta_table (drop 1 (updated configuration x)) ≡ stored meta_cells (x.0, record x.1 { configuration = configuration })
updated_cast configuration x = rw (cast_int (id_int x.0), cast_int (pos x.1.version))

pub changes_update_meta : (old new : State) (configuration : List ℕ) (r : Result ℕ Error) → ExecutesInside 0 UPDATE_META.now (Blob configuration ∷ []) old new r
    → OnOk r (Changes old new (with_configuration configuration))
changes_update_meta old new configuration (Ok count) h = record {
  held = λ t was.
      let params = Blob configuration ∷ [] in
      let did = updates UPDATE_META.now 0 _ update_meta_plain meta_table (λ _. refl) (lit≤ tt) update_meta_is old new params count was.schema h.0 in
      let now = updates_rows meta_cells 0 [] update_meta_columns params (λ _. true) (updated configuration) (λ _. refl) (λ _. refl) (λ _. refl) (λ _. refl)
      old new t.meta was.rows.meta did.0 did.1 (λ x. record x { configuration = configuration }) meta_table (updated_cast configuration) did.2 in
      record { schema = did.2.schema_is; rows = holds_with_meta old.now.trees new.now.trees t was.rows _ now did.2.others };
  shown = h.1;
}
changes_update_meta old new configuration (Err e) h = tt
