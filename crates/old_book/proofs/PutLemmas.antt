-- Rows that are put at their places among rising numbers.
use Rattle.std.proofs.Common.{◌≡◌, ℕ, ◌<◌, int_cmp, Less, Equal, Greater, List, [], ◌∷◌, ◌++◌, map, fold, refl, sym, ap, ◌∙◌, arith, lt→ltb, append_assoc, append-nil}
use Rattle.std.proofs.lemmas.Int.{ints}
use Rattle.std.specs.List.{AllByRecursion}
use Rattle.std.specs.Ordering.{match_ordering}
use Rattle.sqlite.specs.Order.{Row}
use Rattle.sqlite.specs.Tree.{put_row}
use Rattle.sqlite_keyed.proofs.KeyedLemmas.{IsKeyedBy-insert_by, Less-from_lt}
use Rattle.sqlite_keyed.proofs.ListLemmas.{ascending_weaker}
use Rattle.sqlite_typed.proofs.RowLemmas.{puts-map}
use Rattle.tables.specs.Rows.{id_int, Numbered, Rises, stored}
use Rattle.old_book.specs.Placed.{put_at}

-- a tree of rows as they are stored takes the row as it is stored
pub puts_stored : {X : Type 0} (cells : X → Row) (x : ℕ × X) (rows : Numbered X) → put_row (stored cells x) (map (stored cells) rows) ≡ map (stored cells) (put_at x rows)
puts_stored cells x rows = puts-map (λ y. id_int y.0) (stored cells) (λ _. refl) (x ∷ []) rows

pub rises_put : {X : Type 0} (x : ℕ × X) (rows : Numbered X) → Rises rows → Rises (put_at x rows)
rises_put x rows up =
    ascending_weaker _ _ (λ a b h. omega (arith, ints, h)) (put_at x rows)
    (IsKeyedBy-insert_by (λ y. id_int y.0) rows x (ascending_weaker _ _ (λ a b h. omega (arith, ints, lt→ltb, h)) rows up))

-- a function that keeps the numbers keeps the places
pub put_mapped : {X Y : Type 0} (f : X → Y) (x : ℕ × X) (rows : Numbered X) → map (λ y. (y.0, f y.1)) (put_at x rows) ≡ put_at (x.0, f x.1) (map (λ y. (y.0, f y.1)) rows)
put_mapped f x [] = refl
put_mapped {X} {Y} f x (y ∷ rows) =
    let shown : ℕ × X → ℕ × Y = λ z. (z.0, f z.1) in
    rw (sym (put_mapped f x rows))
    (elim (int_cmp (id_int y.0) (id_int x.0)) as (λ o. map shown (match_ordering o (y ∷ put_at x rows) (x ∷ rows) (x ∷ y ∷ rows))
    ≡ match_ordering o (shown y ∷ map shown (put_at x rows)) (shown x ∷ map shown rows) (shown x ∷ shown y ∷ map shown rows)) [ Less ↦ refl | Equal ↦ refl | Greater ↦ refl ])

-- ---- rising rows, one after another

middle : {X : Type 0} (P : X → Type 0) (front : List X) (x : X) (rest : List X) → AllByRecursion P (front ++ x ∷ rest) → P x
middle P [] x rest all = all.0
middle P (y ∷ front) x rest all = middle P front x rest all.1

below : {X : Type 0} (front : Numbered X) (x : ℕ × X) (rest : Numbered X) → Rises (front ++ x ∷ rest) → AllByRecursion (λ y. y.0 < x.0) front
below [] x rest up = tt
below (y ∷ front) x rest up = (middle (λ z. y.0 < z.0) front x rest up.0, below front x rest up.1)

-- a row above all others comes last
put_last : {X : Type 0} (x : ℕ × X) (rows : Numbered X) → AllByRecursion (λ y. y.0 < x.0) rows → put_at x rows ≡ rows ++ x ∷ []
put_last x [] all = refl
put_last x (y ∷ rows) all = rw (Less-from_lt (id_int y.0) (id_int x.0) (omega (arith, ints, lt→ltb, all.0)), put_last x rows all.1) refl

puts_behind : {X : Type 0} (front rows : Numbered X) → Rises (front ++ rows) → fold (λ now x. put_at x now) front rows ≡ front ++ rows
puts_behind front [] up = sym (append-nil front)
puts_behind front (x ∷ rows) up =
    let e = append_assoc front (x ∷ []) rows in
    ap (λ l. fold (λ now x. put_at x now) l rows) (put_last x front (below front x rows up))
    ∙ puts_behind (front ++ x ∷ []) rows (rw e up) ∙ e

pub puts_all : {X : Type 0} (rows : Numbered X) → Rises rows → fold (λ now x. put_at x now) [] rows ≡ rows
puts_all rows = puts_behind [] rows
