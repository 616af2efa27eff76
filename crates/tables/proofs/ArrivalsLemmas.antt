-- What the statements on arrivals do.
use Rattle.std.proofs.Common.{lit≤, ◌≡◌, ℕ, pos, [], ◌∷◌, Ok, Err, Result, OnOk, refl, true, List, map, filter, find, drop, Option, sym, ap, ◌∙◌}
use Rattle.sqlite.specs.Order.{Row, column}
use Rattle.sqlite.specs.Term.{col}
use Rattle.sqlite.specs.declared.types.Value.TheVariants.{Null, Text}
use Rattle.sqlite.specs.Cast.{cast_row}
use Rattle.sqlite.specs.declared.error.Error.{Error}
use Rattle.sqlite.specs.State.{State, ExecutesInside, IsUnchanged}
use Rattle.sqlite_keyed.proofs.ListLemmas.{map_same, map-map}
use Rattle.sqlite_typed.proofs.TestLemmas.{then_term, last_term}
use Rattle.sqlite_typed.proofs.AnswerLemmas.{unfiltered}
use Rattle.tables.specs.Reading.{IsRead, IsReadFirst}
use Rattle.tables.proofs.CastLemmas.{cast_null, cast_int}
use Rattle.tables.proofs.EqualLemmas.{id_test, id_back, text_test}
use Rattle.tables.proofs.InsertLemmas.{puts}
use Rattle.tables.proofs.AddLemmas.{adds_row, adds_id}
use Rattle.tables.proofs.ShownLemmas.{Shows, shown, reads_shown, first_shown}
use Rattle.std.specs.Prelude.{nat_eq}
use Rattle.tables.specs.Schema.{arrivals_table}
use Rattle.tables.specs.Rows.{id_of, id_cell, id_int, whole, Tables, Holds, Changes, with_arrival, arrival_cells, arrival_of, row_of, rows_of, stored, next_in}
use Rattle.tables.specs.Arrivals.{is_arrival, with_moment, without_arrival}
use Rattle.tables.specs.declared.rows.ArrivalRow.{ArrivalRow}
use Rattle.tables.specs.declared.arrivals.TheConstants.{INSERT_ARRIVAL, SELECT_ARRIVAL, SELECT_ARRIVALS, SELECT_BODIES, UPDATE_MOMENT, DELETE_ARRIVAL}
use Rattle.tables.proofs.ArrivalsMeaning.{insert_arrival_terms, insert_arrival_is, insert_arrival_plain, arrival_columns, arrival_is, arrival_id_is, select_arrival_is, select_arrival_plain, select_arrivals_is, select_arrivals_plain, select_bodies_is, select_bodies_plain, update_moment_columns, update_moment_is, update_moment_plain, delete_arrival_columns, delete_arrival_is, delete_arrival_plain}
use Rattle.tables.proofs.HoldsLemmas.{with_arrivals}
use Rattle.tables.proofs.SelectLemmas.{reads_rows}
use Rattle.tables.proofs.UpdateLemmas.{updates, updates_rows, deletes, deletes_rows}

arrival_cast : (name : List ℕ) (body : ℕ) (moment : ℕ) → cast_row arrivals_table (Null ∷ (Null ∷ (Text name ∷ id_cell body ∷ whole moment ∷ []))) ≡ Null ∷ arrival_cells (record { name = name; body = body; moment = moment })
arrival_cast name body moment = rw (cast_null, cast_int (id_int body), cast_int (pos moment))

pub inserts_arrival : (old new : State) (name : List ℕ) (body : ℕ) (moment : ℕ) (count : ℕ) → ExecutesInside 0 INSERT_ARRIVAL.now (Text name ∷ id_cell body ∷ whole moment ∷ []) old new (Ok count)
    → Changes old new (with_arrival (record { name = name; body = body; moment = moment })) × ((t : Tables) → Holds old.now t → new.last_rowid ≡ id_int (next_in t.arrivals))
inserts_arrival old new name body moment count h =
    let put = λ (t : Tables) (was : Holds old.now t).
    puts INSERT_ARRIVAL.now 3 insert_arrival_terms 5 insert_arrival_is insert_arrival_plain _ _ _ _ _ _ 5 (λ _. refl) (lit≤ tt)
    old new (Text name ∷ id_cell body ∷ whole moment ∷ []) (Null ∷ (Null ∷ (Text name ∷ id_cell body ∷ whole moment ∷ []))) count refl was.schema h.0 in (
      record {
        held = λ t was. record {
          schema = (put t was).schema_is;
          rows = with_arrivals old.now.trees new.now.trees t was.rows _ (adds_row arrival_cells arrivals_table _ (record { name = name; body = body; moment = moment }) (arrival_cast name body moment) old new (put t was) t.arrivals was.rows.arrivals) (put t was).others;
        };
        shown = h.1;
      },
      λ t was. adds_id arrival_cells arrivals_table _ (record { name = name; body = body; moment = moment }) (arrival_cast name body moment) old new (put t was) t.arrivals was.rows.arrivals,
    )

arrival_back : (x : ℕ × ArrivalRow) → arrival_of (shown arrival_cells x) ≡ x.1
arrival_back x = λ i. record x.1 { body = id_back x.1.body i }

arrival_shows : (name : List ℕ) (body : ℕ) → Shows arrival_cells 5 arrival_is arrival_columns (Text name ∷ id_cell body ∷ []) (λ x. is_arrival name body x.1) (shown arrival_cells) SELECT_ARRIVAL.now
arrival_shows name body = record { names = _; is = (λ o. (select_arrival_is o).0); plain = select_arrival_plain; unlisted = (λ o. (select_arrival_is o).1); tests = λ x. then_term (text_test x.1.name name) (last_term (id_test x.1.body body)); shows = λ _. refl; real = λ _. refl }

pub arrival_answer : (old new : State) (t : Tables) (name : List ℕ) (body : ℕ) (found : Option (ℕ × ArrivalRow)) → Holds old.now t → IsReadFirst (row_of arrival_of) SELECT_ARRIVAL.now (Text name ∷ id_cell body ∷ []) old new found
    → (found ≡ find (λ x. is_arrival name body x.1) t.arrivals) × IsUnchanged old new
arrival_answer old new t name body found was h =
    first_shown arrival_cells 5 arrival_is arrival_columns (Text name ∷ id_cell body ∷ []) SELECT_ARRIVAL.now old new t.arrivals was.schema was.rows.arrivals (λ x. is_arrival name body x.1) arrival_of arrival_back (arrival_shows name body) found h

arrivals_show : Shows arrival_cells 5 [] arrival_columns [] (λ _. true) (shown arrival_cells) SELECT_ARRIVALS.now
arrivals_show = record { names = _; is = (λ o. (select_arrivals_is o).0); plain = select_arrivals_plain; unlisted = (λ o. (select_arrivals_is o).1); tests = λ _. refl; shows = λ _. refl; real = λ _. refl }

pub arrivals_answer : (old new : State) (t : Tables) (all : List (ℕ × ArrivalRow)) → Holds old.now t → IsRead (row_of arrival_of) SELECT_ARRIVALS.now [] old new all
    → (all ≡ t.arrivals) × IsUnchanged old new
arrivals_answer old new t all was h =
    let done = reads_shown arrival_cells 5 [] arrival_columns [] SELECT_ARRIVALS.now old new t.arrivals was.schema was.rows.arrivals (λ _. true) arrival_of arrival_back arrivals_show all h in
    (unfiltered t.arrivals done.0, done.1)

pub arrived_bodies_answer : (old new : State) (t : Tables) (all : List ℕ) → Holds old.now t → IsRead (λ row. id_of (column row 0)) SELECT_BODIES.now [] old new all
    → (all ≡ map (λ a. a.body) (rows_of t.arrivals)) × IsUnchanged old new
arrived_bodies_answer old new t all was h =
    let show = λ (x : ℕ × ArrivalRow). id_cell x.1.body ∷ [] in
    let rows =
    reads_rows arrival_cells 5 [] (col 1 3 ∷ []) [] (λ _. true) show (λ _. refl) (λ _. refl)
    SELECT_BODIES.now _ (λ _. refl) old new h.rows t.arrivals (λ o. (select_bodies_is o).0) select_bodies_plain (λ o. (select_bodies_is o).1) was.schema was.rows.arrivals h.shown in (
      h.are ∙ ap (map (λ row. id_of (column row 0))) rows ∙ map-map (λ row. id_of (column row 0)) show (filter (λ _. true) t.arrivals)
          ∙ map_same _ (λ (x : ℕ × ArrivalRow). x.1.body) (λ x. id_back x.1.body) _
          ∙ ap (map (λ (x : ℕ × ArrivalRow). x.1.body)) (unfiltered t.arrivals refl) ∙ sym (map-map (λ (a : ArrivalRow). a.body) (λ (x : ℕ × ArrivalRow). x.1) t.arrivals),
      h.same,
    )

-- the row that an update makes of a row
abbrev updated : ℕ → ℕ × ArrivalRow → Row
updated moment x = id_cell x.0 ∷ id_cell x.0 ∷ Null ∷ Text x.1.name ∷ id_cell x.1.body ∷ whole moment ∷ []

updated_cast : (moment : ℕ) (x : ℕ × ArrivalRow) → cast_row arrivals_table (drop 1 (updated moment x)) ≡ stored arrival_cells (x.0, record x.1 { moment = moment })
updated_cast moment x = rw (cast_null, cast_int (id_int x.0), cast_int (id_int x.1.body), cast_int (pos moment))

pub changes_moment : (old new : State) (id moment : ℕ) (r : Result ℕ Error) → ExecutesInside 0 UPDATE_MOMENT.now (id_cell id ∷ whole moment ∷ []) old new r → OnOk r (Changes old new (with_moment id moment))
changes_moment old new id moment (Ok count) h = record {
  held = λ t was.
      let params = id_cell id ∷ whole moment ∷ [] in
      let did = updates UPDATE_MOMENT.now 3 _ update_moment_plain arrivals_table (λ _. refl) (lit≤ tt) update_moment_is old new params count was.schema h.0 in
      let now = updates_rows arrival_cells 5 arrival_id_is update_moment_columns params (λ x. nat_eq x.0 id) (updated moment)
      (λ x. last_term (id_test x.0 id)) (λ _. refl) (λ _. refl) (λ _. refl)
      old new t.arrivals was.rows.arrivals did.0 did.1 (λ x. record x { moment = moment }) arrivals_table (updated_cast moment) did.2 in
      record { schema = did.2.schema_is; rows = with_arrivals old.now.trees new.now.trees t was.rows _ now did.2.others };
  shown = h.1;
}
changes_moment old new id moment (Err e) h = tt

pub removes_arrival : (old new : State) (id : ℕ) (r : Result ℕ Error) → ExecutesInside 0 DELETE_ARRIVAL.now (id_cell id ∷ []) old new r → OnOk r (Changes old new (without_arrival id))
removes_arrival old new id (Ok count) h = record {
  held = λ t was.
      let params = id_cell id ∷ [] in
      let did = deletes DELETE_ARRIVAL.now 3 _ delete_arrival_plain arrivals_table (λ _. refl) (lit≤ tt) delete_arrival_is old new params count was.schema h.0 in
      let now = deletes_rows arrival_cells 5 arrival_id_is delete_arrival_columns params (λ x. nat_eq x.0 id) (λ x. id_cell x.0 ∷ [])
      (λ x. last_term (id_test x.0 id)) (λ _. refl) (λ _. refl) (λ _. refl)
      old new t.arrivals was.rows.arrivals did.0 did.1 did.2 in
      record { schema = did.2.schema_is; rows = with_arrivals old.now.trees new.now.trees t was.rows _ now did.2.others };
  shown = h.1;
}
removes_arrival old new id (Err e) h = tt
