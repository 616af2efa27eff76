-- Two bodies that have the same pieces have the same bytes.
use Rattle.std.proofs.Common.{◌≡◌, ℕ, zero, suc, ◌+◌, ◌<◌, ◌≤◌, nat_eq, Bool, true, false, ◌&&◌, cond, List, [], ◌∷◌, ◌++◌, map, filter, find, length, Option, Some, None, is_none, option_map, refl, sym, ap, ◌∙◌, arith, inl, inr}
use Rattle.std.specs.List.{flat_map, range_with_len}
use Rattle.std.specs.Option.{option_or}
use Rattle.std.proofs.lemmas.Bool.{cases_lt, eq-eqb, ne_eqb}
use Rattle.std.proofs.lemmas.List.Folds.{find-append}
use Rattle.std.proofs.lemmas.List.FromFn.{map-range_with_len_more}
use Rattle.std.proofs.lemmas.Option.{same_Some}
use Rattle.tables.specs.Pieces.{is_of, is_piece}
use Rattle.tables.specs.Rows.{Tables, rows_of}
use Rattle.tables.specs.declared.rows.Piece.{Piece}
use Rattle.tables_meaning.specs.Coming.{HasSamePieces, bytes_at}
use Rattle.tables_meaning.specs.Kept.{piece_at, piece_count, pieces_among, pieces_for, pieces_of}
use Rattle.tables_meaning.proofs.BodyLemmas.{pieces_joined}
use Rattle.tables_meaning.proofs.NumberOrders.{piece_at_number}

abbrev at_number : ℕ → Piece → Bool
at_number number p = nat_eq p.number number

-- a piece is looked for among those of its body
found_in_rows : (id number : ℕ) (ps : List Piece) → find (is_piece id number) ps ≡ find (at_number number) (filter (is_of id) ps)
found_in_rows id number [] = refl
found_in_rows id number (p ∷ ps) = elim (is_of id p) as (λ b. cond (b && at_number number p) (Some p) (find (is_piece id number) ps) ≡ find (at_number number) (cond b (p ∷ filter (is_of id) ps) (filter (is_of id) ps))) [
  | true ↦ ap (cond (at_number number p) (Some p)) (found_in_rows id number ps)
  | false ↦ found_in_rows id number ps
]

found_among : (id number : ℕ) (ps : List Piece) → find (is_piece id number) ps ≡ find (at_number number) (pieces_among ps id)
found_among id number ps = found_in_rows id number ps ∙ sym (piece_at_number number (filter (is_of id) ps))

module _ (id : ℕ) (bytes : List ℕ) where
  abbrev piece_in : ℕ → Piece
  piece_in n = record { body = id; number = n + 1; bytes = piece_at bytes n }

  -- after the last of them there is none
  none_behind : (count k : ℕ) → count ≤ k → find (at_number (k + 1)) (map piece_in (range_with_len 0 count)) ≡ None
  none_behind zero k h = refl
  none_behind (suc count) k h =
      let next : suc count ≡ count + 1 = omega arith in
      let earlier : count ≤ k = omega (arith, h) in
      let other : nat_eq (count + 1) (k + 1) ≡ false = ne_eqb (count + 1) (k + 1) (λ e. omega (arith, e, h)) in
      ap (λ c. find (at_number (k + 1)) (map piece_in (range_with_len 0 c))) next
      ∙ ap (find (at_number (k + 1))) (map-range_with_len_more piece_in 0 count count (omega arith))
      ∙ find-append (at_number (k + 1)) (map piece_in (range_with_len 0 count)) (piece_in count ∷ [])
      ∙ ap (λ o. option_or o (find (at_number (k + 1)) (piece_in count ∷ []))) (none_behind count k earlier)
      ∙ ap (λ b. cond b (Some (piece_in count)) None) other

  one_there : (count k : ℕ) → k < count → find (at_number (k + 1)) (map piece_in (range_with_len 0 count)) ≡ Some (piece_in k)
  one_there zero k h = absurd (omega (arith, h))
  one_there (suc count) k h =
      let next : suc count ≡ count + 1 = omega arith in
      ap (λ c. find (at_number (k + 1)) (map piece_in (range_with_len 0 c))) next
      ∙ ap (find (at_number (k + 1))) (map-range_with_len_more piece_in 0 count count (omega arith))
      ∙ find-append (at_number (k + 1)) (map piece_in (range_with_len 0 count)) (piece_in count ∷ [])
      ∙ elim (cases_lt k count) [
        | inl below ↦ ap (λ o. option_or o (find (at_number (k + 1)) (piece_in count ∷ []))) (one_there count k below)
        | inr last ↦ let same : count ≡ k = omega (arith, last, h) in
            ap (λ o. option_or o (find (at_number (k + 1)) (piece_in count ∷ []))) (none_behind count k last)
            ∙ ap (λ b. cond b (Some (piece_in count)) None) (eq-eqb (count + 1) (k + 1) (ap (λ n. n + 1) same)) ∙ ap (λ n. Some (piece_in n)) same
      ]

-- the bytes at a place of a body that lies in its pieces
module _ (t : Tables) (id : ℕ) (bytes : List ℕ) (has : pieces_of t id ≡ pieces_for id bytes) where
  pub at_place : (k : ℕ) → k < piece_count bytes → bytes_at t id (k + 1) ≡ Some (piece_at bytes k)
  unfolding pieces_for
  at_place k h = ap (option_map (λ (p : Piece). p.bytes)) (found_among id (k + 1) (rows_of t.pieces) ∙ ap (find (at_number (k + 1))) has ∙ one_there id bytes (piece_count bytes) k h)

  pub behind_place : (k : ℕ) → piece_count bytes ≤ k → bytes_at t id (k + 1) ≡ None
  unfolding pieces_for
  behind_place k h = ap (option_map (λ (p : Piece). p.bytes)) (found_among id (k + 1) (rows_of t.pieces) ∙ ap (find (at_number (k + 1))) has ∙ none_behind id bytes (piece_count bytes) k h)

same_front : (one other : List ℕ) (count : ℕ) → ((k : ℕ) → k < count → piece_at one k ≡ piece_at other k)
    → map (piece_in 0 one) (range_with_len 0 count) ≡ map (piece_in 0 other) (range_with_len 0 count)
same_front one other zero same = refl
same_front one other (suc count) same =
    let next : suc count ≡ count + 1 = omega arith in
    let earlier = same_front one other count (λ k h. same k (omega (arith, h))) in
    let last : piece_at one count ≡ piece_at other count = same count (omega arith) in
    ap (λ c. map (piece_in 0 one) (range_with_len 0 c)) next
    ∙ map-range_with_len_more (piece_in 0 one) 0 count count (omega arith)
    ∙ (λ i. earlier i ++ record { body = 0; number = count + 1; bytes = last i } ∷ [])
    ∙ sym (map-range_with_len_more (piece_in 0 other) 0 count count (omega arith))
    ∙ sym (ap (λ c. map (piece_in 0 other) (range_with_len 0 c)) next)

-- bodies with the same number of pieces are equal if their pieces are
same_joined : (one other : List ℕ) → piece_count one ≡ piece_count other → ((k : ℕ) → k < piece_count one → piece_at one k ≡ piece_at other k) → one ≡ other
unfolding pieces_for
same_joined one other counts same =
    sym (pieces_joined 0 one)
    ∙ ap (flat_map (λ (p : Piece). p.bytes)) (same_front one other (piece_count one) same ∙ ap (λ c. map (piece_in 0 other) (range_with_len 0 c)) counts)
    ∙ pieces_joined 0 other

pub same_bytes : (t : Tables) (id found : ℕ) (bytes others : List ℕ) → pieces_of t id ≡ pieces_for id bytes → pieces_of t found ≡ pieces_for found others
    → HasSamePieces t id found (piece_count bytes) → others ≡ bytes
same_bytes t id found bytes others has had same =
    let at_one = at_place t id bytes has in
    let at_other = at_place t found others had in
    let no_more : piece_count others ≤ piece_count bytes = elim (cases_lt (piece_count bytes) (piece_count others)) [
      | inl less ↦ absurd (not_both (sym (behind_place t id bytes has (piece_count bytes) (omega arith)) ∙ same (piece_count bytes) (omega arith) ∙ at_other (piece_count bytes) less))
      | inr more ↦ more
    ] in
    let no_less : piece_count bytes ≤ piece_count others = elim (cases_lt (piece_count others) (piece_count bytes)) [
      | inl less ↦ absurd (not_both (sym (behind_place t found others had (piece_count others) (omega arith)) ∙ sym (same (piece_count others) (omega (arith, less))) ∙ at_one (piece_count others) less))
      | inr more ↦ more
    ] in
    let counts : piece_count others ≡ piece_count bytes = omega (arith, no_more, no_less) in
    same_joined others bytes counts
    (λ k h. let within : k < piece_count bytes = omega (arith, h, counts) in same_Some _ _ (sym (at_other k h) ∙ sym (same k (omega (arith, within))) ∙ at_one k within))
  where
    not_both : {X : Type 0} {x : X} → None ≡ Some x → ⊥
    not_both e = cc

-- a body without a first piece has no byte
pub no_bytes : (t : Tables) (found : ℕ) (others : List ℕ) → pieces_of t found ≡ pieces_for found others → bytes_at t found 1 ≡ None → others ≡ []
no_bytes t found others had none = elim (cases_lt 0 (length others)) [
  | inl some ↦ absurd (not_both (sym none ∙ at_place t found others had 0 (omega (arith, some))))
  | inr nil ↦ is_nil others nil
]
  where
    not_both : {X : Type 0} {x : X} → None ≡ Some x → ⊥
    not_both e = cc

    is_nil : (xs : List ℕ) → length xs ≤ 0 → xs ≡ []
    is_nil [] h = refl
    is_nil (x ∷ xs) h = absurd (omega (arith, h))

-- if no piece was found, no piece is there
pub none_there : (t : Tables) (body : ℕ) (found : Option Piece) → found ≡ find (is_piece body 1) (rows_of t.pieces) → is_none found ≡ true → bytes_at t body 1 ≡ None
none_there t body None is none = sym (ap (option_map (λ (p : Piece). p.bytes)) is)
none_there t body (Some p) is none = cc
