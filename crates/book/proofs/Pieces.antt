-- The pieces of a body, one after another.
use Rattle.std.proofs.Common.{◌≡◌, ◌≤◌, ◌<◌, ◌+◌, ◌-◌, ◌%◌, ◌++◌, ◌∙◌, ℕ, true, false, List, [], ◌∷◌, length, take, drop, min, ap, sym, arith, append_assoc, append-nil, take-append-drop, Option, Some, None, refl, unwrap_or}
use Rattle.std.specs.Bool.{◌==◌}
use Rattle.std.proofs.lemmas.Bool.{eqb-true}
use Rattle.std.proofs.lemmas.List.{length-append, length-drop, length-take-le, nil_from_length}
use Rattle.std.proofs.Math.Nat.{add-mod_right}
use Rattle.std.specs.Option.{option_map}
use Rattle.std.proofs.lemmas.Option.{none-some, same_Some}
use Rattle.book.specs.Pieces.{PieceValue, piece_of_body}

-- one more piece
pub piece_more : (body front rest : List ℕ) (n : ℕ) → body ≡ front ++ rest → body ≡ (front ++ take n rest) ++ drop n rest
piece_more body front rest n is =
    is ∙ ap (λ l. front ++ l) (sym (take-append-drop n rest)) ∙ sym (append_assoc front (take n rest) (drop n rest))

pub piece_length : (rest : List ℕ) (n : ℕ) → n ≤ length rest → length (take n rest) ≡ n
piece_length rest n within = length-take-le n rest within

-- a piece that is not the last is a whole one
pub whole_more : (front rest : List ℕ) (n : ℕ) → n ≡ min (length rest) 65536 → (0 < length rest → length front % 65536 ≡ 0)
    → 0 < length (drop n rest) → length (front ++ take n rest) % 65536 ≡ 0
whole_more front rest n is whole more =
    let left : 0 < length rest - n = omega (arith, length-drop n rest, more) in
    let within : n ≤ length rest = omega arith in
    let full : n ≡ 65536 = omega (arith, is, left) in
    let size : length (front ++ take n rest) ≡ length front + 65536 = length-append front (take n rest) ∙ ap (λ k. length front + k) (piece_length rest n within ∙ full) in
    ap (λ k. k % 65536) size ∙ add-mod_right (length front) 65536 ∙ whole (omega (arith, left))

pub some_left : (rest : List ℕ) → false ≡ (length rest == 0) → 0 < length rest
some_left [] is = absurd (cc)
some_left (x ∷ xs) is = omega arith

none_left : (rest : List ℕ) → true ≡ (length rest == 0) → rest ≡ []
none_left rest is = nil_from_length rest (eqb-true (length rest) 0 (sym is))

-- all pieces have come
pub all_come : (body front rest : List ℕ) → body ≡ front ++ rest → true ≡ (length rest == 0) → front ≡ body
all_come body front rest is none = sym (is ∙ ap (λ l. front ++ l) (none_left rest none) ∙ append-nil front)

-- ---- the piece of a file

-- There is a file, and this is its piece.
pub record IsPieceOf (file : Option (List ℕ)) (number : ℕ) (piece : PieceValue) : Type 0 where
  pub some : file ≡ Some (unwrap_or file [])
  pub is : piece ≡ piece_of_body number (unwrap_or file [])

pub is_piece_of : (file : Option (List ℕ)) (number : ℕ) (piece : PieceValue) → option_map (piece_of_body number) file ≡ Some piece → IsPieceOf file number piece
is_piece_of None number piece e = absurd (none-some piece e)
is_piece_of (Some body) number piece e = record { some = refl; is = sym (same_Some (piece_of_body number body) piece e) }
