-- What the statements on a body of one piece leave of the connection.
use Rattle.std.proofs.Common.{◌≡◌, ℕ, ◌+◌, ◌<◌, ◌≤◌, false, List, [], ◌∷◌, length, map, find, Option, Some, None, is_some, option_map, sym, ap, subst, ◌∙◌, arith}
use Rattle.std.specs.List.{range_with_len}
use Rattle.std.proofs.lemmas.List.{take_all}
use Rattle.sqlite.specs.State.{State}
use Rattle.sums.specs.declared.entries.Entry.{Entry}
use Rattle.sums.specs.declared.print.Print.{Print}
use Rattle.tables.specs.Bodies.{body_with}
use Rattle.tables.specs.Pieces.{is_piece}
use Rattle.tables.specs.Rows.{Tables, Changes, Holds, next_in, rows_of, with_body, with_piece}
use Rattle.tables.specs.declared.rows.Piece.{Piece}
use Rattle.tables_bodies.specs.AtOnce.{HasNoOtherPiece, IsOnePiece, with_delivery_at_once, with_one_piece}
use Rattle.tables_meaning.specs.Coming.{bytes_at, with_received}
use Rattle.tables_meaning.specs.Kept.{piece_at, piece_count, pieces_for}
use Rattle.tables_meaning.specs.Making.{number_with, with_bytes, with_delivered, with_pieces}
use Rattle.tables_meaning.specs.Taking.{listed_in}
use Rattle.tables_meaning.proofs.BodySteps.{with_new_body}
use Rattle.tables_meaning.proofs.DeliverLemmas.{changes_as}
use Rattle.tables_meaning.proofs.Inside.{changes_then}
use Rattle.tables_bodies.proofs.ArrivedLemmas.{received_once_stored}

-- ---- a body that is stored

-- whether the body is one piece
pub none_behind : (t : Tables) (body : ℕ) (found : Option Piece) → found ≡ find (is_piece body 2) (rows_of t.pieces) → is_some found ≡ false → bytes_at t body 2 ≡ None
none_behind t body None is none = sym (ap (option_map (λ (p : Piece). p.bytes)) is)
none_behind t body (Some p) is none = cc

pub none_stored : (print : Print) (bytes : List ℕ) (t : Tables) → None ≡ body_with print t.bodies → HasNoOtherPiece print bytes t
none_stored print bytes t none found is = absurd (let both : None ≡ Some found = none ∙ is in cc)

pub one_stored : (print : Print) (bytes : List ℕ) (t : Tables) (stored : ℕ) → Some stored ≡ body_with print t.bodies → IsOnePiece t stored bytes → HasNoOtherPiece print bytes t
one_stored print bytes t stored one same found is =
    let both : stored ≡ found = let it : Some stored ≡ Some found = one ∙ is in cc in
    subst (λ n. IsOnePiece t n bytes) both same

-- ---- a body that is new

-- the pieces of a body that has a byte, and no more than a piece may have
one_piece : (id : ℕ) (bytes : List ℕ) → 0 < length bytes → length bytes ≤ 65536 → pieces_for id bytes ≡ record { body = id; number = 1; bytes = bytes } ∷ []
unfolding pieces_for
one_piece id bytes some small =
    let count : piece_count bytes ≡ 1 = omega (arith, some, small) in
    ap (λ k. map (λ n. record { body = id; number = n + 1; bytes = piece_at bytes n }) (range_with_len 0 k)) count
    ∙ ap (λ b. record { body = id; number = 1; bytes = b } ∷ []) (take_all 65536 bytes small)

pub adds_piece : (a b c : State) (print : Print) (bytes : List ℕ) (id : ℕ) → Changes a b (with_body (record { print = Some print })) → ((t : Tables) → Holds a.now t → id ≡ next_in t.bodies)
    → Changes b c (with_piece (record { body = id; number = 1; bytes = bytes })) → Changes a c (with_one_piece print bytes)
adds_piece a b c print bytes id added is piece =
    changes_as a c (λ t. with_piece (record { body = id; number = 1; bytes = bytes }) (with_body (record { print = Some print }) t)) (with_one_piece print bytes)
    (λ t was. ap (λ n. with_piece (record { body = n; number = 1; bytes = bytes }) (with_body (record { print = Some print }) t)) (is t was)) (changes_then a b c _ _ added piece)

pub all_of_it : (a b : State) (print : Print) (bytes : List ℕ) → 0 < length bytes → length bytes ≤ 65536 → Changes a b (with_one_piece print bytes) → Changes a b (with_new_body print bytes)
all_of_it a b print bytes some small added =
    changes_as a b (with_one_piece print bytes) (with_new_body print bytes)
    (λ t was. ap (λ ps. with_pieces ps (with_body (record { print = Some print }) t)) (sym (one_piece (next_in t.bodies) bytes some small))) added

-- ---- the whole

pub delivered_at_once : (name bytes : List ℕ) (print : Print) (moment : ℕ) (listed : Option (List Entry)) (id : ℕ) (a b c : State) → listed ≡ listed_in name bytes → Changes a b (with_bytes print bytes)
    → ((t : Tables) → Holds a.now t → id ≡ number_with print (with_bytes print bytes t)) → Changes b c (with_received name id print moment listed) → Changes a c (with_delivery_at_once name bytes print moment)
unfolding with_received with_delivered
delivered_at_once name bytes print moment listed id a b c lists stored is received =
    changes_as a c _ (with_delivery_at_once name bytes print moment)
    (λ t was. ap (λ l. with_received name (number_with print (with_bytes print bytes t)) print moment l (with_bytes print bytes t)) lists)
    (received_once_stored name print moment listed id (with_bytes print bytes) (λ t. number_with print (with_bytes print bytes t)) a b c stored is received)
