-- What the statements on bodies leave of the connection, one after another.
use Rattle.std.proofs.Common.{◌≡◌, ℕ, ◌+◌, ◌/◌, ◌%◌, min, List, [], ◌∷◌, ◌++◌, map, find, cond, Option, Some, None, is_some, IsTrue, Result, Ok, Err, OnErr, refl, sym, ap, ap₂, subst, ◌∙◌, arith}
use Rattle.std.specs.List.{range_with_len}
use Rattle.std.specs.Option.{option_map, option_or, unwrap_or}
use Rattle.std.proofs.lemmas.List.Folds.{find-append}
use Rattle.std.proofs.lemmas.List.FromFn.{map-range_with_len_more}
use Rattle.sqlite.specs.State.{State, IsUnchanged, KeepsCommit, Survives}
use Rattle.sqlite.proofs.StateLemmas.{survives_then}
use Rattle.sums.specs.declared.print.Print.{Print}
use Rattle.book.proofs.Finds.{none_of_map}
use Rattle.tables.specs.Bodies.{body_with, has_print}
use Rattle.tables.specs.Rows.{Tables, Holds, Changes, next_in, with_body, with_piece}
use Rattle.tables.specs.Inside.{GoesOn}
use Rattle.tables.specs.declared.rows.Piece.{Piece}
use Rattle.tables_meaning.specs.Kept.{piece_at, piece_count, pieces_for}
use Rattle.tables_meaning.specs.Making.{number_with, with_bytes, with_pieces}
use Rattle.tables_meaning.proofs.BodyLemmas.{is_of_print, only_pieces}
use Rattle.tables_meaning.proofs.ReadsLemmas.{held_after}

-- ---- reads

module _ (a b c : State) where
  pub unchanged_then : IsUnchanged a b → IsUnchanged b c → IsUnchanged a c
  unchanged_then p q = (
    record { was_open = p.0.was_open; is_open = q.0.is_open; now_is = q.0.now_is ∙ p.0.now_is; committed_is = q.0.committed_is ∙ p.0.committed_is; mode = q.0.mode ∙ p.0.mode },
    record { changes = q.1.changes ∙ p.1.changes; last_rowid = q.1.last_rowid ∙ p.1.last_rowid },
    q.2 ∙ p.2,
  )

pub survives_both : (a b c : State) → Survives a b (λ _. ⊥) → Survives b c (λ _. ⊥) → Survives a c (λ _. ⊥)
survives_both a b c one two = survives_then a b c (λ _. ⊥) (λ _. ⊥) (λ _. ⊥) (λ _ db none. none) (λ _ db none. none) one two

-- ---- pieces

-- the first pieces of a body, of this number
abbrev pub pieces_up_to : ℕ → ℕ → List ℕ → List Piece
pieces_up_to count id bytes = map (λ n. record { body = id; number = n + 1; bytes = piece_at bytes n }) (range_with_len 0 count)

with_last : (ps : List Piece) (p : Piece) (t : Tables) → with_pieces (ps ++ p ∷ []) t ≡ with_piece p (with_pieces ps t)
with_last [] p t = refl
with_last (q ∷ ps) p t = with_last ps p (with_piece q t)

pub no_piece : (a : State) (id : ℕ) (bytes : List ℕ) → IsTrue a.in_transaction → IsTrue a.is_open → Changes a a (with_pieces (pieces_up_to 0 id bytes))
no_piece a id bytes inside up = record { held = λ t was. was; shown = record { was_open = up; is_open = up; now_is = refl; committed_is = refl; mode = inside } }

pub piece_more : (a b c : State) (n id : ℕ) (bytes : List ℕ) → Changes a b (with_pieces (pieces_up_to n id bytes)) → Changes b c (with_piece (record { body = id; number = n + 1; bytes = piece_at bytes n }))
    → Changes a c (with_pieces (pieces_up_to (n + 1) id bytes))
piece_more a b c n id bytes p q = record {
  held = λ t was. subst (Holds c.now) (
      sym (with_last (pieces_up_to n id bytes) (record { body = id; number = n + 1; bytes = piece_at bytes n }) t)
      ∙ ap (λ ps. with_pieces ps t) (sym (map-range_with_len_more (λ n. record { body = id; number = n + 1; bytes = piece_at bytes n }) 0 n n (omega arith)))
      ) (q.held (with_pieces (pieces_up_to n id bytes) t) (p.held t was));
  shown = record { was_open = p.shown.was_open; is_open = q.shown.is_open; now_is = refl; committed_is = q.shown.committed_is ∙ p.shown.committed_is; mode = q.shown.mode };
}

pub all_pieces : (a b : State) (n id : ℕ) (bytes : List ℕ) → n ≡ piece_count bytes → Changes a b (with_pieces (pieces_up_to n id bytes)) → Changes a b (with_pieces (pieces_for id bytes))
unfolding pieces_for
all_pieces a b n id bytes last h = subst (λ n. Changes a b (with_pieces (pieces_up_to n id bytes))) last h

pub rounded_up : (n : ℕ) → n / 65536 + min 1 (n % 65536) ≡ (n + 65535) / 65536
rounded_up n = omega arith

-- ---- bodies

-- the rows with one more body and its pieces
abbrev pub with_new_body : Print → List ℕ → Tables → Tables
with_new_body print bytes t = with_pieces (pieces_for (next_in t.bodies) bytes) (with_body (record { print = Some print }) t)

pub adds_body : (a b c : State) (print : Print) (bytes : List ℕ) (id : ℕ) → Changes a b (with_body (record { print = Some print })) → ((t : Tables) → Holds a.now t → id ≡ next_in t.bodies)
    → Changes b c (with_pieces (pieces_for id bytes)) → Changes a c (with_new_body print bytes)
adds_body a b c print bytes id p is q = record {
  held = λ t was. subst (λ n. Holds c.now (with_pieces (pieces_for n bytes) (with_body (record { print = Some print }) t))) (is t was) (q.held (with_body (record { print = Some print }) t) (p.held t was));
  shown = record { was_open = p.shown.was_open; is_open = q.shown.is_open; now_is = refl; committed_is = q.shown.committed_is ∙ p.shown.committed_is; mode = q.shown.mode };
}

pub bytes_there : (print : Print) (bytes : List ℕ) (t : Tables) (id : ℕ) → body_with print t.bodies ≡ Some id → with_bytes print bytes t ≡ t
unfolding with_bytes
bytes_there print bytes t id e = ap (λ o. cond (is_some o) t (with_new_body print bytes t)) e

pub bytes_new : (print : Print) (bytes : List ℕ) (t : Tables) → body_with print t.bodies ≡ None → with_bytes print bytes t ≡ with_new_body print bytes t
unfolding with_bytes
bytes_new print bytes t e = ap (λ o. cond (is_some o) t (with_new_body print bytes t)) e

pub number_there : (print : Print) (bytes : List ℕ) (t : Tables) (id : ℕ) → body_with print t.bodies ≡ Some id → number_with print (with_bytes print bytes t) ≡ id
number_there print bytes t id e = ap (number_with print) (bytes_there print bytes t id e) ∙ ap (λ (o : Option ℕ). unwrap_or o 0) e

pub number_new : (print : Print) (bytes : List ℕ) (t : Tables) → body_with print t.bodies ≡ None → number_with print (with_bytes print bytes t) ≡ next_in t.bodies
number_new print bytes t e =
    ap (number_with print) (bytes_new print bytes t e ∙ only_pieces (pieces_for (next_in t.bodies) bytes) (with_body (record { print = Some print }) t))
    ∙ ap (λ o. unwrap_or (option_map (λ x. x.0) o) 0) (
    find-append (λ x. has_print print x.1) t.bodies ((next_in t.bodies, record { print = Some print }) ∷ [])
    ∙ ap₂ option_or (none_of_map (λ x. x.0) (find (λ x. has_print print x.1) t.bodies) e) (ap (λ b. cond b (Some (next_in t.bodies, record { print = Some print })) None) (is_of_print print (Some print) refl))
    )

-- what a search by print answered, whatever the rows
abbrev pub Looks : State → State → Print → Option ℕ → Type 0
Looks a b print found = (t : Tables) → Holds a.now t → (found ≡ body_with print t.bodies) × IsUnchanged a b

pub stays_stored : (a b : State) (print : Print) (bytes : List ℕ) (found : Option ℕ) (id : ℕ) → found ≡ Some id → Looks a b print found → GoesOn a b
    → Changes a b (with_bytes print bytes) × ((t : Tables) → Holds a.now t → id ≡ number_with print (with_bytes print bytes t))
stays_stored a b print bytes found id is looks on = (
  record {
    held = λ t was. subst (Holds b.now) (sym (bytes_there print bytes t id (sym (looks t was).0 ∙ is))) (held_after a b (looks t was).1 t was);
    shown = on;
  },
  λ t was. sym (number_there print bytes t id (sym (looks t was).0 ∙ is)),
)

pub is_stored : (a b c : State) (print : Print) (bytes : List ℕ) (found : Option ℕ) (id : ℕ) → found ≡ None → Looks a b print found → GoesOn a b
    → Changes b c (with_new_body print bytes) → ((t : Tables) → Holds b.now t → id ≡ next_in t.bodies)
    → Changes a c (with_bytes print bytes) × ((t : Tables) → Holds a.now t → id ≡ number_with print (with_bytes print bytes t))
is_stored a b c print bytes found id is looks on adds numbered = (
  record {
    held = λ t was. subst (Holds c.now) (sym (bytes_new print bytes t (sym (looks t was).0 ∙ is))) (adds.held t (held_after a b (looks t was).1 t was));
    shown = record { was_open = on.was_open; is_open = adds.shown.is_open; now_is = refl; committed_is = adds.shown.committed_is ∙ on.committed_is; mode = adds.shown.mode };
  },
  λ t was. numbered t (held_after a b (looks t was).1 t was) ∙ sym (number_new print bytes t (sym (looks t was).0 ∙ is)),
)

-- nothing is committed by a read and what follows it
pub keeps_if_err : {X E : Type 0} (r : Result X E) (a b c : State) → GoesOn a b → OnErr r (KeepsCommit b c) → OnErr r (KeepsCommit a c)
keeps_if_err (Ok x) a b c on kept = tt
keeps_if_err (Err e) a b c on kept = record { was_open = λ up. on.was_open; committed = λ up. kept.committed up ∙ on.committed_is }
