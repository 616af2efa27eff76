-- The pieces of a body that is not whole, one after another.
use Rattle.std.proofs.Common.{◌≡◌, ℕ, ◌+◌, ◌-◌, ◌*◌, ◌%◌, ◌<◌, ◌≤◌, min, Bool, true, false, nat_eq, List, [], ◌∷◌, ◌++◌, drop, length, get_or, All, IsTrue, inl, inr, refl, sym, ap, ap₂, ◌∙◌, arith, true≢false}
use Rattle.std.specs.Prelude.{◌↔◌}
use Rattle.std.proofs.lemmas.Bool.{cases_lt, eq-eqb, eqb-true}
use Rattle.std.proofs.lemmas.List.{get_or_append_left, length-append, length-drop, length-take}
use Rattle.std.proofs.lemmas.List.FromFn.{get_or-map-range_with_len, length-map-range_with_len}
use Rattle.tables.specs.Rows.{Tables}
use Rattle.tables.specs.declared.rows.Piece.{Piece}
use Rattle.tables_meaning.specs.Finished.{AreUnderWay}
use Rattle.tables_meaning.specs.Kept.{piece_at, piece_count, pieces_for}
use Rattle.tables_meaning.proofs.ComingLemmas.{count_more, pieces_and_one}
use Rattle.tables_audit.specs.Bodies.{AreInPieces, IsBehind, IsInPieces, bytes_in}
use Rattle.tables_audit.proofs.BodiesLemmas.{bytes_more, is_before, next_is, piece_row, same_piece}

-- These are `count` pieces, as those of a body of their bytes. `full` says whether the last one is full, or there is
-- none.
pub record AreSoFar (id count : ℕ) (full : Bool) (ps : List Piece) : Type 0 where
  pub long : count ≡ piece_count (bytes_in ps)
  pub aligned : full ≡ true → length (bytes_in ps) % 65536 ≡ 0
  pub short : full ≡ false → 0 < length (bytes_in ps) % 65536
  pub pieces : AreInPieces id ps

pub none_so_far : (id : ℕ) → AreSoFar id 0 true []
unfolding pieces_for
none_so_far id = record { long = refl; aligned = λ _. refl; short = λ e. absurd (true≢false e); pieces = refl }

full_after : (size n : ℕ) → size % 65536 ≡ 0 → nat_eq n 65536 ≡ true → (size + n) % 65536 ≡ 0
full_after size n aligned e = let is = eqb-true n 65536 e in omega (arith, aligned, is)

short_after : (size n : ℕ) → size % 65536 ≡ 0 → 0 < n → n ≤ 65536 → nat_eq n 65536 ≡ false → 0 < (size + n) % 65536
short_after size n aligned some small e = elim (cases_lt n 65536) [
  | inl below ↦ omega (arith, aligned, some, below)
  | inr from ↦ let is : n ≡ 65536 = omega (arith, small, from) in absurd (true≢false (sym (eq-eqb n 65536 is) ∙ e))
]

-- one more piece after full ones
pub and_behind : (id count : ℕ) (ps : List Piece) (p : Piece) → p.body ≡ id → IsBehind count p → AreSoFar id count true ps
    → AreSoFar id (count + 1) (nat_eq (length p.bytes) 65536) (ps ++ p ∷ [])
and_behind id count ps p of next h =
    let bytes = bytes_in ps in
    let both = bytes_more ps p in
    let aligned = h.aligned refl in
    let size : length (bytes_in (ps ++ p ∷ [])) ≡ length bytes + length p.bytes = ap length both ∙ length-append bytes p.bytes in
    let number : p.number ≡ piece_count bytes + 1 = next.number ∙ ap (λ n. n + 1) h.long in
    record {
      long = ap (λ n. n + 1) h.long ∙ sym (count_more bytes p.bytes aligned next.some next.small) ∙ ap piece_count (sym both);
      aligned = λ e. ap (λ n. n % 65536) size ∙ full_after (length bytes) (length p.bytes) aligned e;
      short = λ e. let some = short_after (length bytes) (length p.bytes) aligned next.some next.small e in omega (arith, some, size);
      pieces = ap₂ ◌++◌ h.pieces (ap (λ q. q ∷ []) (same_piece p id (piece_count bytes + 1) of number))
          ∙ sym (pieces_and_one id bytes p.bytes aligned next.some next.small)
          ∙ ap (pieces_for id) (sym both);
    }

size_at : (bytes : List ℕ) (n : ℕ) → length (piece_at bytes n) ≡ min 65536 (length bytes - 65536 * n)
size_at bytes n = length-take 65536 (drop (65536 * n) bytes) ∙ ap (min 65536) (length-drop (65536 * n) bytes)

-- In a body of these bytes, a piece after the first `count` pieces.
module _ (id count : ℕ) (full : Bool) (bytes : List ℕ) (ps rest : List Piece) (p : Piece) (are : ps ++ p ∷ rest ≡ pieces_for id bytes) (h : AreSoFar id count full ps) where
  abbrev front : List ℕ
  front = bytes_in ps

  abbrev n : ℕ
  n = piece_count front

  front_long : length ps ≡ n
  unfolding pieces_for
  front_long = ap length h.pieces ∙ length-map-range_with_len (piece_row id front) 0 n

  below : n < piece_count bytes
  unfolding pieces_for
  below = is_before (piece_row id bytes) (piece_count bytes) n ps rest p front_long are

  -- each piece of the front is a piece of both
  size_in_both : (m : ℕ) → m < n → length (piece_at front m) ≡ length (piece_at bytes m)
  unfolding pieces_for
  size_in_both m lt =
      ap (λ q. length q.bytes)
      (sym (get_or-map-range_with_len (piece_row id front) 0 n m m p lt (omega arith))
      ∙ ap (λ l. get_or l m p) (sym h.pieces)
      ∙ sym (get_or_append_left ps (p ∷ rest) p m (omega (arith, lt, front_long)))
      ∙ ap (λ l. get_or l m p) are
      ∙ get_or-map-range_with_len (piece_row id bytes) 0 (piece_count bytes) m m p (omega (arith, lt, below)) (omega arith))

  none_short : 0 < length front % 65536 → ⊥
  none_short some =
      let last : n - 1 < n = omega (arith, some) in
      let same = size_in_both (n - 1) last in
      let one = size_at front (n - 1) in
      let other = size_at bytes (n - 1) in
      omega (arith, some, same, one, other, below)

  -- the pieces before it are full
  pub behind_full : full ≡ true
  behind_full = by full refl
    where
      by : (b : Bool) → full ≡ b → b ≡ true
      by true e = refl
      by false e = absurd (none_short (h.short e))

  -- it is the next of them
  pub is_next_behind : IsBehind count p
  unfolding pieces_for
  is_next_behind =
      let is = next_is (piece_row id bytes) (piece_count bytes) n ps rest p front_long are in
      let size : length p.bytes ≡ min 65536 (length bytes - 65536 * n) = ap (λ q. length q.bytes) is ∙ size_at bytes n in
      record {
        number = ap (λ q. q.number) is ∙ ap (λ k. k + 1) (sym h.long);
        some = omega (arith, size, below);
        small = omega (arith, size);
      }

-- the test of each body is that of all
pub all_under_way : (t : Tables) (fit : Bool) → (IsTrue fit ↔ All (IsInPieces t) t.bodies) → (IsTrue fit ↔ AreUnderWay t)
all_under_way t fit h = (λ e. record { pieces = h.0 e }, λ all. h.1 all.pieces)
