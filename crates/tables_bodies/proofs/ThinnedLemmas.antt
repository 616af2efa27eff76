-- Pieces of a body that go one by one.
use Rattle.std.proofs.Common.{◌≡◌, ℕ, Bool, true, false, not, cond, nat_eq, List, [], ◌∷◌, filter, IsTrue, refl, sym, ap, ◌∙◌}
use Rattle.std.proofs.lemmas.Bool.{and_parts}
use Rattle.sqlite.specs.State.{State}
use Rattle.sqlite_keyed.specs.Lists.{delete_where}
use Rattle.tables.specs.Pieces.{is_of, is_piece, without_piece, without_pieces}
use Rattle.tables.specs.Rows.{Numbered, Tables, Changes}
use Rattle.tables.specs.declared.rows.Piece.{Piece}
use Rattle.tables_meaning.specs.Amending.{Makes}
use Rattle.tables_meaning.proofs.AmendLemmas.{makes_as, makes_if_changed, makes_none, makes_then}
use Rattle.tables_bodies.specs.Thinned.{Thins}

-- what goes first would have gone with the rest
gone_first : {X : Type 0} (p q : X → Bool) (xs : List X) → ((x : X) → q x ≡ true → p x ≡ true) → delete_where p (delete_where q xs) ≡ delete_where p xs
gone_first p q [] all = refl
gone_first {X} p q (x ∷ xs) all = go (q x) refl (gone_first p q xs all)
  where
    go : (b : Bool) → q x ≡ b → delete_where p (delete_where q xs) ≡ delete_where p xs → delete_where p (cond (not b) (x ∷ delete_where q xs) (delete_where q xs)) ≡ delete_where p (x ∷ xs)
    go true e more = rw (all x e) more
    go false e more = ap (λ l. cond (not (p x)) (x ∷ l) l) more

one_gone_first : (id number : ℕ) (t : Tables) → without_pieces id (without_piece id number t) ≡ without_pieces id t
one_gone_first id number t =
    let same = gone_first (λ (x : ℕ × Piece). is_of id x.1) (λ (x : ℕ × Piece). is_piece id number x.1) t.pieces (λ x e. (and_parts (is_of id x.1) (nat_eq x.1.number number) e).0) in
    λ i. record t { pieces = same i }

pub thins_none : (id : ℕ) (a : State) → IsTrue a.in_transaction → Thins id a a
thins_none id a inside = record { thinned = λ t. t; makes = makes_none a inside; rest = λ t. refl }

-- one more piece goes
pub thins_more : (id number : ℕ) (a b c : State) → Thins id a b → Changes b c (without_piece id number) → Thins id a c
thins_more id number a b c h one = record {
  thinned = λ t. without_piece id number (h.thinned t);
  makes = makes_then a b c h.thinned (without_piece id number) h.makes (makes_if_changed b c (without_piece id number) one);
  rest = λ t. one_gone_first id number (h.thinned t) ∙ h.rest t;
}

-- the pieces that are left go at once
pub thins_then : (id : ℕ) (a b c : State) → Thins id a b → Changes b c (without_pieces id) → Makes a c (without_pieces id)
thins_then id a b c h rest =
    makes_as a c (λ t. without_pieces id (h.thinned t)) (without_pieces id) (λ t _. h.rest t) (makes_then a b c h.thinned (without_pieces id) h.makes (makes_if_changed b c (without_pieces id) rest))
