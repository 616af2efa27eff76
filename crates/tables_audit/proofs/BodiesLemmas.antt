-- Bodies, their pieces, and whether they are used.
use Rattle.std.proofs.Common.{◌≡◌, ℕ, suc, ◌+◌, ◌-◌, ◌*◌, ◌/◌, ◌%◌, ◌<◌, ◌≤◌, min, Bool, true, false, cond, nat_eq, List, [], ◌∷◌, ◌++◌, map, filter, take, drop, length, get_or, All, IsTrue, refl, sym, ap, ap₂, subst, ◌∙◌, arith}
use Rattle.std.specs.Prelude.{◌↔◌}
use Rattle.std.specs.List.{AllByRecursion, list_any, range_with_len}
use Rattle.std.proofs.lemmas.Bool.{eqb-true}
use Rattle.std.proofs.lemmas.List.{append-nil, drop_more, get_or-map, get_or_at, length-append, length-drop, length-map, length-take, map-append, map_more, take-append-drop}
use Rattle.std.proofs.lemmas.List.Concat.{flat_map-append}
use Rattle.std.proofs.lemmas.List.Elements.{All-from_recursion, filter-append}
use Rattle.std.proofs.lemmas.List.Sorted.{All-permutation, IsPermutation-sym, length_permutation, list_any-IsPermutation}
use Rattle.std.proofs.lemmas.List.FromFn.{get_or-map-range_with_len, length-map-range_with_len}
use denote.Ref.{Bor}
use Rattle.sqlite_keyed.proofs.ListLemmas.{IsPermutation-flat_map}
use Rattle.sqlite_keyed.proofs.SortLemmas.{IsPermutation-sort_by}
use Rattle.tables.specs.Pieces.{is_of}
use Rattle.tables.specs.Rows.{Tables, Numbered, rows_of}
use Rattle.tables.specs.declared.rows.Piece.{Piece}
use Rattle.tables_meaning.specs.Kept.{is_used, piece_at, piece_count, piece_order, pieces_among, pieces_for, used_in}
use Rattle.tables_meaning.specs.Reads.{sorted_by}
use Rattle.tables_meaning.proofs.ComingLemmas.{pieces_and_one}
use Rattle.tables_meaning.proofs.NumberOrders.{piece_order_total}
use Rattle.tables_audit.specs.Bodies.{AreUsed, IsBodyFit, IsNext, bytes_in}
use Rattle.tables_audit.specs.Parts.{BodiesFit}

-- ---- rows that pass a test

-- the rows that pass a test, with one more row
row_more : {X Y : Type 0} (p : Y → Bool) (f : X → Y) (xs : List X) (i : ℕ) (x : X) → i < length xs → x ≡ get_or xs i x
    → filter p (map f (take (i + 1) xs)) ≡ filter p (map f (take i xs)) ++ cond (p (f x)) (f x ∷ []) []
row_more p f xs i x within is =
    ap (filter p) (map_more f xs i x within ∙ ap (λ y. map f (take i xs) ++ f y ∷ []) (sym is))
    ∙ filter-append p (map f (take i xs)) (f x ∷ [])

-- a place in a list of numbered things that comes after the first n of them, and what is there
pub is_before : {X : Type 0} (f : ℕ → X) (k n : ℕ) (front rest : List X) (x : X) → length front ≡ n → front ++ x ∷ rest ≡ map f (range_with_len 0 k) → n < k
is_before f k n front rest x front_long whole =
    let long : length front + suc (length rest) ≡ k = sym (length-append front (x ∷ rest)) ∙ ap length whole ∙ length-map-range_with_len f 0 k in
    omega (arith, long, front_long)

pub next_is : {X : Type 0} (f : ℕ → X) (k n : ℕ) (front rest : List X) (x : X) → length front ≡ n → front ++ x ∷ rest ≡ map f (range_with_len 0 k) → x ≡ f n
next_is f k n front rest x front_long whole =
    let below = is_before f k n front rest x front_long whole in
    sym (get_or_at front x rest x n front_long) ∙ ap (λ l. get_or l n x) whole ∙ get_or-map-range_with_len f 0 k n n x (omega arith) (omega (arith, below))

-- ---- the pieces of a body

-- the pieces of a body among these rows
abbrev pub among : ℕ → Numbered Piece → List Piece
among id rows = filter (is_of id) (rows_of rows)

module _ (id : ℕ) (rows : Numbered Piece) (i : ℕ) (x : ℕ × Piece) (within : i < length rows) (is : x ≡ get_or rows i x) where
  pub passed_over : is_of id x.1 ≡ false → among id (take (i + 1) rows) ≡ among id (take i rows)
  passed_over other =
      row_more (is_of id) (λ x. x.1) rows i x within is
      ∙ ap (λ b. among id (take i rows) ++ cond b (x.1 ∷ []) []) other
      ∙ append-nil (among id (take i rows))

  pub one_more : is_of id x.1 ≡ true → among id (take (i + 1) rows) ≡ among id (take i rows) ++ x.1 ∷ []
  one_more of = row_more (is_of id) (λ x. x.1) rows i x within is ∙ ap (λ b. among id (take i rows) ++ cond b (x.1 ∷ []) []) of

-- the pieces that are looked at
abbrev pub views : List (Bor Piece) → List Piece
views ps = map (λ p. p.now) ps

module _ (pieces : List (Bor Piece)) (i : ℕ) (x : Bor Piece) (within : i < length pieces) (is : x ≡ get_or pieces i x) where
  pub piece_more : views (take (i + 1) pieces) ≡ views (take i pieces) ++ x.now ∷ []
  piece_more = map_more (λ p. p.now) pieces i x within ∙ ap (λ (y : Bor Piece). views (take i pieces) ++ y.now ∷ []) (sym is)

  -- the pieces before this one, then this one and those after it
  pub around : views pieces ≡ views (take i pieces) ++ x.now ∷ views (drop (i + 1) pieces)
  around =
      ap views (sym (take-append-drop i pieces))
      ∙ map-append (λ p. p.now) (take i pieces) (drop i pieces)
      ∙ ap (λ l. views (take i pieces) ++ views l) (drop_more pieces i x within ∙ ap (λ y. y ∷ drop (i + 1) pieces) (sym is))

  pub its_body : (id : ℕ) → All (λ p. p.body ≡ id) (views pieces) → x.now.body ≡ id
  its_body id own =
      subst (λ (p : Piece). p.body ≡ id) (get_or-map (λ p. p.now) pieces i x x.now within ∙ ap (λ (y : Bor Piece). y.now) (sym is))
      (own i x.now (omega (arith, within, length-map pieces (λ (p : Bor Piece). p.now))))

-- the pieces of a body have its number
own_rows : (id : ℕ) (ps : List Piece) → AllByRecursion (λ p. p.body ≡ id) (filter (is_of id) ps)
own_rows id [] = tt
own_rows id (p ∷ ps) = go (nat_eq p.body id) refl (own_rows id ps)
  where
    go : (b : Bool) → nat_eq p.body id ≡ b → AllByRecursion (λ q. q.body ≡ id) (filter (is_of id) ps)
        → AllByRecursion (λ q. q.body ≡ id) (cond b (p ∷ filter (is_of id) ps) (filter (is_of id) ps))
    go true t more = (eqb-true p.body id t, more)
    go false t more = more

pub their_body : (id : ℕ) (ps : List Piece) → All (λ p. p.body ≡ id) (pieces_among ps id)
their_body id ps =
    let rows = filter (is_of id) ps in
    All-permutation (λ (p : Piece). p.body ≡ id) rows (pieces_among ps id) (IsPermutation-sym (pieces_among ps id) rows (IsPermutation-sort_by piece_order piece_order_total rows))
    (All-from_recursion (λ (p : Piece). p.body ≡ id) rows (own_rows id ps))

-- the number of their bytes does not depend on their order
pub as_long : (ps : List Piece) → length (bytes_in ps) ≡ length (bytes_in (sorted_by piece_order ps))
as_long ps =
    length_permutation (bytes_in (sorted_by piece_order ps)) (bytes_in ps)
    (IsPermutation-flat_map (λ (p : Piece). p.bytes) (sorted_by piece_order ps) ps (IsPermutation-sort_by piece_order piece_order_total ps))

-- the row of the piece of these bytes at a place
abbrev pub piece_row : ℕ → List ℕ → ℕ → Piece
piece_row id bytes n = record { body = id; number = n + 1; bytes = piece_at bytes n }

pub same_piece : (p : Piece) (id number : ℕ) → p.body ≡ id → p.number ≡ number → p ≡ record { body = id; number = number; bytes = p.bytes }
same_piece p id number a b = ap (λ n. piece n p.number) a ∙ ap (piece id) b
  where
    piece : ℕ → ℕ → Piece
    piece id number = record { body = id; number = number; bytes = p.bytes }

pub bytes_more : (ps : List Piece) (p : Piece) → bytes_in (ps ++ p ∷ []) ≡ bytes_in ps ++ p.bytes
bytes_more ps p = flat_map-append (λ (p : Piece). p.bytes) ps (p ∷ []) ∙ ap (λ l. bytes_in ps ++ l) (append-nil p.bytes)

-- These are the first pieces of a body of `whole` bytes, with the first `size` of them. A piece that others follow is full.
pub record AreFirst (id whole size : ℕ) (ps : List Piece) : Type 0 where
  pub long : size ≡ length (bytes_in ps)
  pub within : size ≤ whole
  pub full : size < whole → size % 65536 ≡ 0
  pub pieces : ps ≡ pieces_for id (bytes_in ps)

pub none_yet : (id whole : ℕ) → AreFirst id whole 0 []
unfolding pieces_for
none_yet id whole = record { long = refl; within = omega arith; full = λ _. refl; pieces = refl }

-- the first pieces of a body, with the next one
pub and_next : (id whole size : ℕ) (ps : List Piece) (p : Piece) → p.body ≡ id → IsNext size whole p → AreFirst id whole size ps → AreFirst id whole (size + length p.bytes) (ps ++ p ∷ [])
and_next id whole size ps p of next h =
    let bytes = bytes_in ps in
    let both = bytes_more ps p in
    let full = h.full next.some in
    let aligned : length bytes % 65536 ≡ 0 = omega (arith, full, h.long) in
    let some : 0 < length p.bytes = omega (arith, next.some, next.long) in
    let small : length p.bytes ≤ 65536 = omega (arith, next.long) in
    let number : p.number ≡ piece_count bytes + 1 = omega (arith, next.number, h.long, full) in
    record {
      long = ap (λ n. n + length p.bytes) h.long ∙ sym (length-append bytes p.bytes) ∙ ap length (sym both);
      within = omega (arith, next.some, next.long);
      full = λ more. omega (arith, more, next.some, next.long, full);
      pieces = ap₂ ◌++◌ h.pieces (ap (λ q. q ∷ []) (same_piece p id (piece_count bytes + 1) of number))
          ∙ sym (pieces_and_one id bytes p.bytes aligned some small)
          ∙ ap (pieces_for id) (sym both);
    }

-- a piece that follows them in a body of these bytes is the next one
pub behind_them : (id size : ℕ) (bytes : List ℕ) (ps rest : List Piece) (p : Piece) → ps ++ p ∷ rest ≡ pieces_for id bytes → AreFirst id (length bytes) size ps → IsNext size (length bytes) p
unfolding pieces_for
behind_them id size bytes ps rest p are h =
    let n = piece_count (bytes_in ps) in
    let front_long : length ps ≡ n = ap length h.pieces ∙ length-map-range_with_len (piece_row id (bytes_in ps)) 0 n in
    let below = is_before (piece_row id bytes) (piece_count bytes) n ps rest p front_long are in
    let is = next_is (piece_row id bytes) (piece_count bytes) n ps rest p front_long are in
    let some : size < length bytes = omega (arith, below, h.long) in
    let full = h.full some in
    let number : n + 1 ≡ size / 65536 + 1 = omega (arith, h.long, full) in
    let start : 65536 * n ≡ size = omega (arith, h.long, full) in
    let long : min 65536 (length bytes - 65536 * n) ≡ min (length bytes - size) 65536 = omega (arith, start) in
    record {
      some = some;
      number = ap (λ q. q.number) is ∙ number;
      long = ap (λ q. length q.bytes) is ∙ length-take 65536 (drop (65536 * n) bytes) ∙ ap (min 65536) (length-drop (65536 * n) bytes) ∙ long;
    }

-- ---- what is used

-- a body is used exactly if its number is among those of arrivals and files
pub used_same : (t : Tables) (numbers : List ℕ) (id : ℕ) → AreUsed t.arrivals t.files numbers → list_any (λ n. nat_eq n id) numbers ≡ is_used t id
unfolding is_used
used_same t numbers id h = sym (list_any-IsPermutation (λ n. nat_eq n id) (used_in t) numbers h.are)

-- ---- all bodies

pub bodies_fit : (t : Tables) (fit : Bool) → (IsTrue fit ↔ All (IsBodyFit t) t.bodies) → (IsTrue fit ↔ BodiesFit t)
bodies_fit t fit h = (
  λ e. record {
    whole = λ k d within. (h.0 e k d within).whole;
    pieces = λ k d within. (h.0 e k d within).pieces;
    used = λ k d within. (h.0 e k d within).used;
  },
  λ all. h.1 (λ k d within. record { whole = all.whole k d within; pieces = all.pieces k d within; used = all.used k d within }),
)
