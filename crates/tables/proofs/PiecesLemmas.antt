-- What the statements on pieces do.
use Rattle.std.proofs.Common.{arith, lit≤, ◌≡◌, ℕ, suc, pos, [], ◌∷◌, Ok, Err, Result, OnOk, refl, List, Option, Bool, true, false, cond, filter, find, length, nat_lt, slice_get, ap, ◌∙◌}
use Rattle.std.specs.List.{list_any}
use Rattle.std.proofs.lemmas.Bool.Decides.{nat_tests}
use Rattle.sqlite.specs.declared.types.Value.TheVariants.{Null, Blob}
use Rattle.sqlite.specs.Cast.{cast_row}
use Rattle.sqlite.specs.declared.error.Error.{Error}
use Rattle.sqlite.specs.State.{State, ExecutesInside, IsUnchanged}
use Rattle.sqlite_keyed.proofs.ListLemmas.{slice_get-filter}
use Rattle.sqlite_typed.proofs.TestLemmas.{then_term, last_term}
use Rattle.tables.specs.Reading.{IsRead, IsReadFirst}
use Rattle.tables.proofs.CastLemmas.{cast_null, cast_int}
use Rattle.tables.proofs.EqualLemmas.{id_test, id_back, whole_test}
use Rattle.tables.proofs.InsertLemmas.{puts}
use Rattle.tables.proofs.AddLemmas.{adds_row}
use Rattle.tables.proofs.ShownLemmas.{Shows, reads_stored}
use Rattle.tables.specs.Schema.{pieces_table}
use Rattle.tables.specs.Rows.{id_cell, id_int, whole, Numbered, Tables, Holds, Changes, with_piece, piece_cells, piece_of, stored, rows_of}
use Rattle.tables.specs.Pieces.{is_of, is_piece, without_piece, without_pieces}
use Rattle.tables.specs.declared.rows.Piece.{Piece}
use Rattle.tables.specs.declared.pieces.TheConstants.{INSERT_PIECE, SELECT_PIECE, SELECT_PIECES_OF, DELETE_PIECE, DELETE_PIECES}
use Rattle.tables.proofs.PiecesMeaning.{insert_piece_terms, insert_piece_is, insert_piece_plain, piece_columns, piece_body_is, piece_is, select_piece_is, select_piece_plain, select_pieces_of_is, select_pieces_of_plain, delete_pieces_columns, delete_piece_is, delete_piece_plain, delete_pieces_is, delete_pieces_plain}
use Rattle.tables.proofs.HoldsLemmas.{with_pieces}
use Rattle.tables.proofs.UpdateLemmas.{deletes, deletes_counted, deletes_rows, found_length}

piece_cast : (body : ℕ) (number : ℕ) (bytes : List ℕ) → cast_row pieces_table (Null ∷ (id_cell body ∷ whole number ∷ Blob bytes ∷ [])) ≡ Null ∷ piece_cells (record { body = body; number = number; bytes = bytes })
piece_cast body number bytes = rw (cast_null, cast_int (id_int body), cast_int (pos number))

pub inserts_piece : (old new : State) (body : ℕ) (number : ℕ) (bytes : List ℕ) (r : Result ℕ Error) → ExecutesInside 0 INSERT_PIECE.now (id_cell body ∷ whole number ∷ Blob bytes ∷ []) old new r
    → OnOk r (Changes old new (with_piece (record { body = body; number = number; bytes = bytes })))
inserts_piece old new body number bytes (Ok count) h = record {
  held = λ t was.
      let put = puts INSERT_PIECE.now 2 insert_piece_terms 4 insert_piece_is insert_piece_plain _ _ _ _ _ _ 3 (λ _. refl) (lit≤ tt)
      old new (id_cell body ∷ whole number ∷ Blob bytes ∷ []) (Null ∷ (id_cell body ∷ whole number ∷ Blob bytes ∷ [])) count refl was.schema h.0 in
      record { schema = put.schema_is; rows = with_pieces old.now.trees new.now.trees t was.rows _ (adds_row piece_cells pieces_table _ (record { body = body; number = number; bytes = bytes }) (piece_cast body number bytes) old new put t.pieces was.rows.pieces) put.others };
  shown = h.1;
}
inserts_piece old new body number bytes (Err e) h = tt

piece_back : (x : ℕ × Piece) → piece_of (stored piece_cells x) ≡ x.1
piece_back x = λ i. record x.1 { body = id_back x.1.body i }

pieces_of_shows : (body : ℕ) → Shows piece_cells 3 piece_body_is piece_columns (id_cell body ∷ []) (λ x. is_of body x.1) (stored piece_cells) SELECT_PIECES_OF.now
pieces_of_shows body = record { names = _; is = (λ o. (select_pieces_of_is o).0); plain = select_pieces_of_plain; unlisted = (λ o. (select_pieces_of_is o).1); tests = λ x. last_term (id_test x.1.body body); shows = λ _. refl; real = λ _. refl }

pub pieces_of_answer : (old new : State) (t : Tables) (body : ℕ) (all : List Piece) → Holds old.now t → IsRead piece_of SELECT_PIECES_OF.now (id_cell body ∷ []) old new all
    → (all ≡ filter (is_of body) (rows_of t.pieces)) × IsUnchanged old new
pieces_of_answer old new t body all was h =
    reads_stored piece_cells 3 piece_body_is piece_columns (id_cell body ∷ []) SELECT_PIECES_OF.now old new t.pieces was.schema was.rows.pieces (is_of body) piece_of piece_back (pieces_of_shows body) all h

piece_shows : (body number : ℕ) → Shows piece_cells 3 piece_is piece_columns (id_cell body ∷ whole number ∷ []) (λ x. is_piece body number x.1) (stored piece_cells) SELECT_PIECE.now
piece_shows body number = record { names = _; is = (λ o. (select_piece_is o).0); plain = select_piece_plain; unlisted = (λ o. (select_piece_is o).1); tests = λ x. then_term (id_test x.1.body body) (last_term (whole_test x.1.number number)); shows = λ _. refl; real = λ _. refl }

pub piece_answer : (old new : State) (t : Tables) (body number : ℕ) (found : Option Piece) → Holds old.now t → IsReadFirst piece_of SELECT_PIECE.now (id_cell body ∷ whole number ∷ []) old new found
    → (found ≡ find (is_piece body number) (rows_of t.pieces)) × IsUnchanged old new
piece_answer old new t body number found was h =
    let all = reads_stored piece_cells 3 piece_is piece_columns (id_cell body ∷ whole number ∷ []) SELECT_PIECE.now old new t.pieces was.schema was.rows.pieces (is_piece body number) piece_of piece_back (piece_shows body number) h.all h.read in
    (h.is ∙ ap (λ l. slice_get l 0) all.0 ∙ slice_get-filter (is_piece body number) (rows_of t.pieces), all.1)

pub removes_pieces : (old new : State) (body : ℕ) (r : Result ℕ Error) → ExecutesInside 0 DELETE_PIECES.now (id_cell body ∷ []) old new r → OnOk r (Changes old new (without_pieces body))
removes_pieces old new body (Ok count) h = record {
  held = λ t was.
      let params = id_cell body ∷ [] in
      let did = deletes DELETE_PIECES.now 2 _ delete_pieces_plain pieces_table (λ _. refl) (lit≤ tt) delete_pieces_is old new params count was.schema h.0 in
      let now = deletes_rows piece_cells 3 piece_body_is delete_pieces_columns params (λ x. is_of body x.1) (λ x. id_cell x.0 ∷ [])
      (λ x. last_term (id_test x.1.body body)) (λ _. refl) (λ _. refl) (λ _. refl)
      old new t.pieces was.rows.pieces did.0 did.1 did.2 in
      record { schema = did.2.schema_is; rows = with_pieces old.now.trees new.now.trees t was.rows _ now did.2.others };
  shown = h.1;
}
removes_pieces old new body (Err e) h = tt

some_are : (n : ℕ) → nat_lt 0 (suc n) ≡ true
some_are n = grind (arith, nat_tests)

-- some row passes if those that pass are not none
some_pass : {X : Type 0} (p : X → Bool) (xs : Numbered X) → nat_lt 0 (length (filter (λ x. p x.1) xs)) ≡ list_any p (rows_of xs)
some_pass p [] = refl
some_pass {X} p (x ∷ xs) = go (p x.1) refl (some_pass p xs)
  where
    go : (b : Bool) → p x.1 ≡ b → nat_lt 0 (length (filter (λ x. p x.1) xs)) ≡ list_any p (rows_of xs)
        → nat_lt 0 (length (cond b (x ∷ filter (λ x. p x.1) xs) (filter (λ x. p x.1) xs))) ≡ list_any p (rows_of (x ∷ xs))
    go true e more = rw e (some_are (length (filter (λ x. p x.1) xs)))
    go false e more = rw e more

pub removes_piece : (old new : State) (body number : ℕ) (count : ℕ) → ExecutesInside 0 DELETE_PIECE.now (id_cell body ∷ whole number ∷ []) old new (Ok count)
    → Changes old new (without_piece body number) × ((t : Tables) → Holds old.now t → nat_lt 0 count ≡ list_any (is_piece body number) (rows_of t.pieces))
removes_piece old new body number count h =
    let params = id_cell body ∷ whole number ∷ [] in
    let tests = λ (x : ℕ × Piece). then_term (id_test x.1.body body) (last_term (whole_test x.1.number number)) in
    let did = λ (t : Tables) (was : Holds old.now t).
    deletes_counted DELETE_PIECE.now 2 _ delete_piece_plain pieces_table (λ _. refl) (lit≤ tt) delete_piece_is old new params count was.schema h.0 in (
      record {
        held = λ t was.
            let now = deletes_rows piece_cells 3 piece_is delete_pieces_columns params (λ x. is_piece body number x.1) (λ x. id_cell x.0 ∷ [])
            tests (λ _. refl) (λ _. refl) (λ _. refl)
            old new t.pieces was.rows.pieces (did t was).0 (did t was).1 (did t was).2 in
            record { schema = (did t was).2.schema_is; rows = with_pieces old.now.trees new.now.trees t was.rows _ now (did t was).2.others };
        shown = h.1;
      },
      λ t was.
          let some = found_length piece_cells 3 piece_is delete_pieces_columns params (λ x. is_piece body number x.1) (λ x. id_cell x.0 ∷ [])
          tests (λ _. refl) (λ _. refl) (λ _. refl)
          old new t.pieces was.rows.pieces (did t was).0 (did t was).1 in
          ap (nat_lt 0) ((did t was).3 ∙ some) ∙ some_pass (is_piece body number) t.pieces,
    )
