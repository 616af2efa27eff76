-- What the statements on bodies do.
use Rattle.std.proofs.Common.{lit≤, ◌≡◌, ℕ, drop, pos, [], ◌∷◌, Ok, Err, Result, OnOk, nat_eq, refl, true, false, List, map, filter, find, slice_get, Option, Some, None, ap, ◌∙◌, option_map, ◌&&◌}
use Rattle.sqlite.specs.Order.{Row, column}
use Rattle.sqlite.specs.Term.{col}
use Rattle.sqlite.specs.declared.types.Value.TheVariants.{Null, Blob}
use Rattle.sqlite.specs.Cast.{cast_row}
use Rattle.sqlite.specs.declared.error.Error.{Error}
use Rattle.sqlite.specs.State.{State, ExecutesInside, IsUnchanged}
use Rattle.sqlite.specs.Values.{or_null}
use Rattle.sqlite_keyed.proofs.ListLemmas.{map_same, map-map, slice_get-filter}
use Rattle.sqlite_typed.proofs.AnswerLemmas.{unfiltered}
use Rattle.sqlite_typed.proofs.TestLemmas.{last_term, truth_or}
use Rattle.sqlite_sql.specs.Ops.{binary}
use Rattle.sqlite_sql.specs.declared.ops.CompareOp.TheVariants.{Eq}
use Rattle.sqlite_sql.specs.declared.ops.BinaryOp.TheVariants.{Compare}
use Rattle.sqlite.specs.Collation.TheVariants.{Binary}
use Rattle.sums.specs.declared.print.Print.{Print}
use Rattle.tables.specs.Schema.{bodies_table}
use Rattle.tables.specs.Rows.{id_of, id_cell, id_int, whole, print_cells, Numbered, Tables, Holds, Changes, with_body, body_cells, body_of, full_body, next_in, row_of, stored}
use Rattle.tables.specs.Bodies.{has_print, body_with, with_print, without_body}
use Rattle.tables.specs.Reading.{IsRead, IsReadFirst}
use Rattle.tables.specs.declared.rows.BodyRow.{BodyRow}
use Rattle.tables.specs.declared.bodies.TheConstants.{INSERT_BODY, INSERT_BEGUN, UPDATE_PRINT, SELECT_BODY, SELECT_NUMBERED, SELECT_NUMBERS, DELETE_BODY}
use Rattle.tables.proofs.CastLemmas.{cast_null, cast_int}
use Rattle.tables.proofs.BodiesMeaning.{insert_body_terms, insert_body_is, insert_body_plain, insert_begun_terms, insert_begun_is, insert_begun_plain, update_print_columns, update_print_is, update_print_plain, print_terms, select_body_is, select_body_plain, body_id_is, body_columns, select_numbered_is, select_numbered_plain, select_numbers_is, select_numbers_plain, delete_body_columns, delete_body_is, delete_body_plain}
use Rattle.tables.proofs.InsertLemmas.{puts}
use Rattle.tables.proofs.AddLemmas.{adds_row, adds_id}
use Rattle.tables.proofs.HoldsLemmas.{with_bodies}
use Rattle.tables.proofs.FullLemmas.{Storing, raw, raw_cells, raw_rows, value_in, full_as, full_rows_as, added_of, next_of, changed_of, reads_full, first_value, deletes_full}
use Rattle.tables.proofs.PrintLemmas.{print_test}
use Rattle.tables.proofs.ShownLemmas.{Shows, shown}
use Rattle.tables.proofs.EqualLemmas.{id_test, id_back}
use Rattle.sqlite_sql.specs.Term.{eval_all}
use Rattle.tables.proofs.UpdateLemmas.{deletes, updates, updates_rows}

abbrev pub storing : Storing BodyRow
storing = record { cells = body_cells; full = full_body; same = λ _. refl; again = λ _ _ _. refl; none = refl }

abbrev pub whole_body : Print → BodyRow
whole_body p = record { print = Some p }

body_cast : (p : Print) → cast_row bodies_table (Null ∷ (Null ∷ print_cells p)) ≡ Null ∷ body_cells (whole_body p)
body_cast p = rw (cast_null, cast_int (pos p.size))

pub inserts_body : (old new : State) (p : Print) (count : ℕ) → ExecutesInside 0 INSERT_BODY.now (print_cells p) old new (Ok count)
    → Changes old new (with_body (whole_body p)) × ((t : Tables) → Holds old.now t → new.last_rowid ≡ id_int (next_in t.bodies))
inserts_body old new p count h =
    let put = λ (t : Tables) (was : Holds old.now t).
    puts INSERT_BODY.now 1 insert_body_terms 6 insert_body_is insert_body_plain _ _ _ _ _ _ 1 (λ _. refl) (lit≤ tt)
    old new (print_cells p) (Null ∷ (Null ∷ print_cells p)) count refl was.schema h.0 in
    let raws = λ (t : Tables) (was : Holds old.now t). raw_rows storing t.bodies (old.now.trees 1) was.rows.bodies in (
      record {
        held = λ t was.
            let r = raws t was in
            let now = adds_row (raw_cells storing) bodies_table _ (raw storing (whole_body p)) (body_cast p) old new (put t was) r.of r.has in
            record {
              schema = (put t was).schema_is;
              rows = with_bodies old.now.trees new.now.trees t was.rows _ (full_rows_as storing _ _ (new.now.trees 1) (added_of storing t.bodies r.of (whole_body p) r.values) now) (put t was).others;
            };
        shown = h.1;
      },
      λ t was.
          let r = raws t was in
          adds_id (raw_cells storing) bodies_table _ (raw storing (whole_body p)) (body_cast p) old new (put t was) r.of r.has ∙ ap id_int (next_of storing t.bodies r.of r.values),
    )

abbrev pub begun_body : BodyRow
begun_body = record { print = None }

begun_cast : cast_row bodies_table (Null ∷ (Null ∷ Null ∷ Null ∷ Null ∷ Null ∷ [])) ≡ Null ∷ body_cells begun_body
begun_cast = rw cast_null refl

pub inserts_begun : (old new : State) (count : ℕ) → ExecutesInside 0 INSERT_BEGUN.now [] old new (Ok count)
    → Changes old new (with_body begun_body) × ((t : Tables) → Holds old.now t → new.last_rowid ≡ id_int (next_in t.bodies))
inserts_begun old new count h =
    let put = λ (t : Tables) (was : Holds old.now t).
    puts INSERT_BEGUN.now 1 insert_begun_terms 6 insert_begun_is insert_begun_plain _ _ _ _ _ _ 1 (λ _. refl) (lit≤ tt)
    old new [] (Null ∷ (Null ∷ Null ∷ Null ∷ Null ∷ Null ∷ [])) count refl was.schema h.0 in
    let raws = λ (t : Tables) (was : Holds old.now t). raw_rows storing t.bodies (old.now.trees 1) was.rows.bodies in (
      record {
        held = λ t was.
            let r = raws t was in
            let now = adds_row (raw_cells storing) bodies_table _ (raw storing begun_body) begun_cast old new (put t was) r.of r.has in
            record {
              schema = (put t was).schema_is;
              rows = with_bodies old.now.trees new.now.trees t was.rows _ (full_rows_as storing _ _ (new.now.trees 1) (added_of storing t.bodies r.of begun_body r.values) now) (put t was).others;
            };
        shown = h.1;
      },
      λ t was.
          let r = raws t was in
          adds_id (raw_cells storing) bodies_table _ (raw storing begun_body) begun_cast old new (put t was) r.of r.has ∙ ap id_int (next_of storing t.bodies r.of r.values),
    )

-- the row that an update makes of a row
abbrev updated : Print → ℕ × BodyRow → Row
updated p x = id_cell x.0 ∷ id_cell x.0 ∷ Null ∷ print_cells p

abbrev printed : Print → BodyRow → BodyRow
printed p b = record b { print = Some p }

updated_cast : (p : Print) (x : ℕ × BodyRow) → cast_row bodies_table (drop 1 (updated p x)) ≡ stored body_cells (x.0, printed p x.1)
updated_cast p x = rw (cast_null, cast_int (id_int x.0), cast_int (pos p.size))

pub changes_print : (old new : State) (id : ℕ) (p : Print) (r : Result ℕ Error) → ExecutesInside 0 UPDATE_PRINT.now (id_cell id ∷ print_cells p) old new r
    → OnOk r (Changes old new (with_print id p))
changes_print old new id p (Ok count) h = record {
  held = λ t was.
      let params = id_cell id ∷ print_cells p in
      let did = updates UPDATE_PRINT.now 1 _ update_print_plain bodies_table (λ _. refl) (lit≤ tt) update_print_is old new params count was.schema h.0 in
      let r = raw_rows storing t.bodies (old.now.trees 1) was.rows.bodies in
      let now = updates_rows (raw_cells storing) 1 body_id_is update_print_columns params (λ x. nat_eq x.0 id) (λ x. updated p (value_in storing x))
      (λ x. last_term (id_test x.0 id)) (λ x. ap (λ row. eval_all update_print_columns (params ∷ row ∷ [])) (full_as storing x)) (λ _. refl) (λ _. refl)
      old new r.of r.has did.0 did.1 (λ k. raw storing (printed p k.value)) bodies_table (λ x. updated_cast p (value_in storing x)) did.2 in
      let same = changed_of storing t.bodies r.of (λ x. nat_eq x.0 id) (printed p) (λ k. raw storing (printed p k.value)) (λ _. refl) r.values in
      record { schema = did.2.schema_is; rows = with_bodies old.now.trees new.now.trees t was.rows _ (full_rows_as storing _ _ (new.now.trees 1) same now) did.2.others };
  shown = h.1;
}
changes_print old new id p (Err e) h = tt

nullable_test : (p : Print) (q : Option Print) →
    (truth_or false (binary (Compare Eq Binary) (or_null (λ p. whole p.size) q) (whole p.size)) && (truth_or false (binary (Compare Eq Binary) (or_null (λ p. Blob p.md5) q) (Blob p.md5))
    && (truth_or false (binary (Compare Eq Binary) (or_null (λ p. Blob p.sha1) q) (Blob p.sha1)) && (truth_or false (binary (Compare Eq Binary) (or_null (λ p. Blob p.sha256) q) (Blob p.sha256)) && true))))
    ≡ has_print p (record { print = q })
unfolding binary
nullable_test p None = refl
nullable_test p (Some q) = print_test q p

number_of_first : (xs : Numbered BodyRow) → slice_get (map (λ x. x.0) xs) 0 ≡ option_map (λ x. x.0) (slice_get xs 0)
number_of_first [] = refl
number_of_first (x ∷ xs) = refl

pub body_answer : (old new : State) (t : Tables) (p : Print) (found : Option ℕ) → Holds old.now t → IsReadFirst (λ row. id_of (column row 0)) SELECT_BODY.now (print_cells p) old new found
    → (found ≡ body_with p t.bodies) × IsUnchanged old new
body_answer old new t p found was h =
    let some = filter (λ x. has_print p x.1) t.bodies in
    let show = λ (x : ℕ × BodyRow). id_cell x.0 ∷ [] in
    let rows =
    reads_full storing 1 print_terms (col 1 0 ∷ []) (print_cells p) (λ x. has_print p x.1) show (record { tests = λ _. refl; shows = λ _. refl }) (λ x. nullable_test p x.1.print) (λ _. refl)
    SELECT_BODY.now _ (λ _. refl) old new h.read.rows t.bodies (λ o. (select_body_is o).0) select_body_plain (λ o. (select_body_is o).1) was.schema was.rows.bodies h.read.shown in (
      h.is ∙ ap (λ all. slice_get all 0) (h.read.are ∙ ap (map (λ row. id_of (column row 0))) rows ∙ map-map (λ row. id_of (column row 0)) show some ∙ map_same _ (λ (x : ℕ × BodyRow). x.0) (λ x. id_back x.0) some)
          ∙ number_of_first some ∙ ap (option_map (λ x. x.0)) (slice_get-filter (λ x. has_print p x.1) t.bodies),
      h.read.same,
    )

body_back : (x : ℕ × BodyRow) → body_of (shown body_cells x) ≡ x.1
body_back x = elim x.1.print as (λ p. body_of (shown body_cells (x.0, record { print = p })) ≡ record { print = p }) [ None ↦ refl | Some p ↦ refl ]

numbered_show : (id : ℕ) → Shows body_cells 1 body_id_is body_columns (id_cell id ∷ []) (λ x. nat_eq x.0 id) (shown body_cells) SELECT_NUMBERED.now
numbered_show id = record { names = _; is = (λ o. (select_numbered_is o).0); plain = select_numbered_plain; unlisted = (λ o. (select_numbered_is o).1); tests = λ x. last_term (id_test x.0 id); shows = λ _. refl; real = λ _. refl }

pub numbered_answer : (old new : State) (t : Tables) (id : ℕ) (found : Option (ℕ × BodyRow)) → Holds old.now t → IsReadFirst (row_of body_of) SELECT_NUMBERED.now (id_cell id ∷ []) old new found
    → (found ≡ find (λ x. nat_eq x.0 id) t.bodies) × IsUnchanged old new
numbered_answer old new t id found was h =
    first_value storing 1 body_id_is body_columns (id_cell id ∷ []) SELECT_NUMBERED.now old new t.bodies was.schema was.rows.bodies (λ x. nat_eq x.0 id) body_of body_back (numbered_show id)
    (record { tests = λ _. refl; shows = λ _. refl }) found h

pub numbers_answer : (old new : State) (t : Tables) (all : List ℕ) → Holds old.now t → IsRead (λ row. id_of (column row 0)) SELECT_NUMBERS.now [] old new all
    → (all ≡ map (λ x. x.0) t.bodies) × IsUnchanged old new
numbers_answer old new t all was h =
    let show = λ (x : ℕ × BodyRow). id_cell x.0 ∷ [] in
    let rows =
    reads_full storing 1 [] (col 1 0 ∷ []) [] (λ _. true) show (record { tests = λ _. refl; shows = λ _. refl }) (λ _. refl) (λ _. refl)
    SELECT_NUMBERS.now _ (λ _. refl) old new h.rows t.bodies (λ o. (select_numbers_is o).0) select_numbers_plain (λ o. (select_numbers_is o).1) was.schema was.rows.bodies h.shown in (
      h.are ∙ ap (map (λ row. id_of (column row 0))) rows ∙ map-map (λ row. id_of (column row 0)) show (filter (λ _. true) t.bodies)
          ∙ map_same _ (λ (x : ℕ × BodyRow). x.0) (λ x. id_back x.0) _
          ∙ ap (map (λ (x : ℕ × BodyRow). x.0)) (unfiltered t.bodies refl),
      h.same,
    )

pub removes_body : (old new : State) (id : ℕ) (r : Result ℕ Error) → ExecutesInside 0 DELETE_BODY.now (id_cell id ∷ []) old new r → OnOk r (Changes old new (without_body id))
removes_body old new id (Ok count) h = record {
  held = λ t was.
      let params = id_cell id ∷ [] in
      let did = deletes DELETE_BODY.now 1 _ delete_body_plain bodies_table (λ _. refl) (lit≤ tt) delete_body_is old new params count was.schema h.0 in
      let now = deletes_full storing 1 body_id_is delete_body_columns params (λ x. nat_eq x.0 id) (λ x. id_cell x.0 ∷ []) (record { tests = λ _. refl; shows = λ _. refl })
      (λ x. last_term (id_test x.0 id)) (λ _. refl) (λ _. refl) (λ _. refl)
      old new t.bodies was.rows.bodies did.0 did.1 did.2 in
      record { schema = did.2.schema_is; rows = with_bodies old.now.trees new.now.trees t was.rows _ now did.2.others };
  shown = h.1;
}
removes_body old new id (Err e) h = tt
