-- Pieces and files of items in the order of their numbers, and what uploads want in the order of the names.
use Rattle.std.proofs.Common.{◌≡◌, ◌⊎◌, inl, inr, ℕ, zero, suc, ◌+◌, ◌<◌, ◌≤◌, Bool, true, false, cond, not, ◌&&◌, ◌==◌, nat_eq, nat_lt, List, [], ◌∷◌, map, filter, find, slice_get, All, Contains, refl, sym, ap, ap₂, ◌∙◌, arith}
use Rattle.std.specs.Cmp.{IsTotalOrder}
use Rattle.std.specs.List.{AllByRecursion, enumerate_from, range_with_len}
use Rattle.std.specs.Ordering.{is_lt, nat_cmp}
use Rattle.std.specs.declared.cmp.Ordering.{Ordering}
use Rattle.std.specs.declared.cmp.Ordering.TheVariants.{Less, Equal, Greater}
use Rattle.std.proofs.lemmas.Bool.{cases_lt, eq-eqb, le-ltb, lt-ltb, ne_eqb}
use Rattle.std.proofs.lemmas.Cmp.{nat_cmp_total, on_total}
use Rattle.std.proofs.lemmas.List.Elements.{filter_agree}
use Rattle.sqlite_trees.specs.Tree.{IsAscending}
use Rattle.sqlite_keyed.specs.Lists.{sort_by as sorted_by}
use Rattle.sqlite_keyed.proofs.ListLemmas.{ascending-map, ascending_weaker, slice_get-filter}
use Rattle.suites.specs.KeyLemmas.{text_order_total}
use Rattle.suites.specs.declared.item.Item as shelf
use Rattle.tables.specs.declared.rows.Piece.{Piece}
use Rattle.tables.specs.declared.rows.Ref.{Ref}
use Rattle.tables_meaning.specs.Kept.{piece_count, piece_order, pieces_for, ref_order, refs_for, want_order}
use Rattle.tables_meaning.proofs.Orders.{sorted_rising}
use Rattle.tables_meaning.proofs.SortedLemmas.{stays_sorted}

-- ---- numbers

-- one number is below another exactly if it compares so
below_is : (m n : ℕ) → is_lt (nat_cmp m n) ≡ nat_lt m n
below_is m n = go (nat_lt m n) (m == n)
  where
    go : (a b : Bool) → is_lt (cond a Less (cond b Equal Greater)) ≡ a
    go true b = refl
    go false true = refl
    go false false = refl

-- two numbers tie exactly if they are the same
pub tie_is : (m n : ℕ) → not (is_lt (nat_cmp m n)) && not (is_lt (nat_cmp n m)) ≡ nat_eq n m
tie_is m n = ap₂ (λ a b. not a && not b) (below_is m n) (below_is n m) ∙ go (cases_lt m n) (cases_lt n m)
  where
    go : (m < n) ⊎ (n ≤ m) → (n < m) ⊎ (m ≤ n) → not (nat_lt m n) && not (nat_lt n m) ≡ nat_eq n m
    go (inl below) b = ap (λ a. not a && not (nat_lt n m)) (lt-ltb m n below) ∙ sym (ne_eqb n m (λ e. omega arith))
    go (inr most) (inl above) = ap₂ (λ a b. not a && not b) (le-ltb m n most) (lt-ltb n m above) ∙ sym (ne_eqb n m (λ e. omega arith))
    go (inr most) (inr least) = ap₂ (λ a b. not a && not b) (le-ltb m n most) (le-ltb n m least) ∙ sym (eq-eqb n m (omega arith))

is_less : (m n : ℕ) → m < n → nat_cmp m n ≡ Less
is_less m n lt = ap (λ a. cond a Less (cond (m == n) Equal Greater)) (lt-ltb m n lt)

-- ---- what is numbered on rises

all_above : (low start count : ℕ) → low < start → AllByRecursion (λ n. low < n) (range_with_len start count)
all_above low start zero lt = tt
all_above low start (suc count) lt = (lt, all_above low (start + 1) count (omega (arith, lt)))

counting_up : (start count : ℕ) → IsAscending (λ a b. a < b) (range_with_len start count)
counting_up start zero = tt
counting_up start (suc count) = (all_above start (start + 1) count (omega arith), counting_up (start + 1) count)

all_behind : {X : Type 0} (low start : ℕ) (xs : List X) → low < start → AllByRecursion (λ (x : ℕ × X). low < x.0) (enumerate_from start xs)
all_behind low start [] lt = tt
all_behind low start (x ∷ xs) lt = (lt, all_behind low (start + 1) xs (omega (arith, lt)))

numbering_up : {X : Type 0} (start : ℕ) (xs : List X) → IsAscending (λ (x y : ℕ × X). x.0 < y.0) (enumerate_from start xs)
numbering_up start [] = tt
numbering_up start (x ∷ xs) = (all_behind start (start + 1) xs (omega arith), numbering_up (start + 1) xs)

-- ---- pieces and files

pub piece_order_total : IsTotalOrder piece_order
piece_order_total = on_total (λ p. p.number) nat_cmp_total

pub ref_order_total : IsTotalOrder ref_order
ref_order_total = on_total (λ r. r.number) nat_cmp_total

pub want_order_total : IsTotalOrder want_order
want_order_total = on_total (λ w. w.0) text_order_total

-- the pieces of a body that is written are in their order
pub pieces_in_order : (id : ℕ) (bytes : List ℕ) → sorted_by piece_order (pieces_for id bytes) ≡ pieces_for id bytes
unfolding pieces_for
pieces_in_order id bytes =
    sorted_rising piece_order piece_order_total (pieces_for id bytes)
    (ascending-map (λ (p q : Piece). piece_order p q ≡ Less) _ (range_with_len 0 (piece_count bytes))
    (ascending_weaker (λ a b. a < b) (λ a b. nat_cmp (a + 1) (b + 1) ≡ Less) (λ a b lt. is_less (a + 1) (b + 1) (omega (arith, lt))) (range_with_len 0 (piece_count bytes)) (counting_up 0 (piece_count bytes))))

-- the files of an item are in their order
pub refs_in_order : (id : ℕ) (item : shelf.Item) → sorted_by ref_order (refs_for id item) ≡ refs_for id item
unfolding refs_for
refs_in_order id item =
    sorted_rising ref_order ref_order_total (refs_for id item)
    (ascending-map (λ (r s : Ref). ref_order r s ≡ Less) _ (enumerate_from 1 item.files)
    (ascending_weaker (λ x y. x.0 < y.0) (λ x y. nat_cmp x.0 y.0 ≡ Less) (λ x y lt. is_less x.0 y.0 lt) (enumerate_from 1 item.files) (numbering_up 1 item.files)))

-- a search by number finds the same piece among those in their order
pub piece_at_number : (number : ℕ) (ps : List Piece) → find (λ (p : Piece). nat_eq p.number number) (sorted_by piece_order ps) ≡ find (λ (p : Piece). nat_eq p.number number) ps
piece_at_number number ps =
    let at : Piece → Bool = λ p. nat_eq p.number number in
    let one : Piece = record { body = 0; number = number; bytes = [] } in
    let tie : Piece → Bool = λ p. not (is_lt (nat_cmp number p.number)) && not (is_lt (nat_cmp p.number number)) in
    let alike : (p : Piece) → at p ≡ tie p = λ p. sym (tie_is number p.number) in
    sym (slice_get-filter at (sorted_by piece_order ps))
    ∙ ap (λ l. slice_get l 0) (filter_agree at tie alike (sorted_by piece_order ps) ∙ stays_sorted piece_order piece_order_total one ps ∙ sym (filter_agree at tie alike ps))
    ∙ slice_get-filter at ps
