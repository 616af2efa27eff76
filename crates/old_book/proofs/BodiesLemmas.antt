-- What the statements that add a body under its number do.
use Rattle.std.proofs.Common.{lit≤, ◌≡◌, ℕ, pos, [], ◌∷◌, Ok, Err, Result, OnOk, refl}
use Rattle.sqlite.specs.declared.types.Value.TheVariants.{Null}
use Rattle.sqlite.specs.Cast.{cast_row}
use Rattle.sqlite.specs.declared.error.Error.{Error}
use Rattle.sqlite.specs.State.{State, ExecutesInside}
use Rattle.sums.specs.declared.print.Print.{Print}
use Rattle.tables.specs.Schema.{bodies_table}
use Rattle.tables.specs.Rows.{id_cell, id_int, print_cells, Changes, body_cells, stored}
use Rattle.tables.proofs.CastLemmas.{cast_null, cast_int}
use Rattle.tables.proofs.InsertLemmas.{puts}
use Rattle.tables.proofs.HoldsLemmas.{with_bodies}
use Rattle.tables.proofs.FullLemmas.{raw, raw_cells, raw_rows, full_rows_as}
use Rattle.tables.proofs.BodiesLemmas.{begun_body, storing, whole_body}
use Rattle.old_book.specs.Placed.{with_body_at}
use Rattle.old_book.specs.declared.bodies.TheConstants.{COPY_BODY, COPY_BEGUN}
use Rattle.old_book.proofs.Meaning.{copy_body_terms, copy_body_is, copy_body_plain, copy_begun_terms, copy_begun_is, copy_begun_plain}
use Rattle.old_book.proofs.PlaceLemmas.{places_row, placed_of}

body_cast : (id : ℕ) (p : Print) → cast_row bodies_table (id_cell id ∷ (Null ∷ print_cells p)) ≡ stored body_cells (id, whole_body p)
body_cast id p = rw (cast_null, cast_int (id_int id), cast_int (pos p.size))

pub copies_body : (old new : State) (id : ℕ) (p : Print) (r : Result ℕ Error) → ExecutesInside 0 COPY_BODY.now (id_cell id ∷ print_cells p) old new r
    → OnOk r (Changes old new (with_body_at (id, whole_body p)))
copies_body old new id p (Ok count) h = record {
  held = λ t was.
      let put =
      puts COPY_BODY.now 1 copy_body_terms 6 copy_body_is copy_body_plain _ _ _ _ _ _ 1 (λ _. refl) (lit≤ tt)
      old new (id_cell id ∷ print_cells p) (id_cell id ∷ (Null ∷ print_cells p)) count refl was.schema h.0 in
      let r = raw_rows storing t.bodies (old.now.trees 1) was.rows.bodies in
      let now = places_row (raw_cells storing) bodies_table _ (id, raw storing (whole_body p)) (body_cast id p) old new put r.of r.has in
      record {
        schema = put.schema_is;
        rows = with_bodies old.now.trees new.now.trees t was.rows _ (full_rows_as storing _ _ (new.now.trees 1) (placed_of storing t.bodies r.of (id, whole_body p) r.values) now) put.others;
      };
  shown = h.1;
}
copies_body old new id p (Err e) h = tt

begun_cast : (id : ℕ) → cast_row bodies_table (id_cell id ∷ (Null ∷ Null ∷ Null ∷ Null ∷ Null ∷ [])) ≡ stored body_cells (id, begun_body)
begun_cast id = rw (cast_null, cast_int (id_int id)) refl

pub copies_begun : (old new : State) (id : ℕ) (r : Result ℕ Error) → ExecutesInside 0 COPY_BEGUN.now (id_cell id ∷ []) old new r
    → OnOk r (Changes old new (with_body_at (id, begun_body)))
copies_begun old new id (Ok count) h = record {
  held = λ t was.
      let put =
      puts COPY_BEGUN.now 1 copy_begun_terms 6 copy_begun_is copy_begun_plain _ _ _ _ _ _ 1 (λ _. refl) (lit≤ tt)
      old new (id_cell id ∷ []) (id_cell id ∷ (Null ∷ Null ∷ Null ∷ Null ∷ Null ∷ [])) count refl was.schema h.0 in
      let r = raw_rows storing t.bodies (old.now.trees 1) was.rows.bodies in
      let now = places_row (raw_cells storing) bodies_table _ (id, raw storing begun_body) (begun_cast id) old new put r.of r.has in
      record {
        schema = put.schema_is;
        rows = with_bodies old.now.trees new.now.trees t was.rows _ (full_rows_as storing _ _ (new.now.trees 1) (placed_of storing t.bodies r.of (id, begun_body) r.values) now) put.others;
      };
  shown = h.1;
}
copies_begun old new id (Err e) h = tt
