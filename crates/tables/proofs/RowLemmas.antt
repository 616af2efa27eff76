-- A row that is added to a table comes last.
use Rattle.std.proofs.Common.{◌≡◌, ℕ, ◌+◌, ◌<◌, pos, ◌+ℤ◌, [], ◌∷◌, ◌++◌, map, fold, refl, sym, ap, ◌∙◌, arith, lt→ltb}
use Rattle.std.specs.List.{AllByRecursion}
use Rattle.std.proofs.lemmas.Int.{ints}
use Rattle.std.specs.Cmp.{int_cmp_is}
use Rattle.std.specs.declared.cmp.Ordering.TheVariants.{Less}
use Rattle.sqlite.specs.declared.types.Value.TheVariants.{Null, Int}
use Rattle.sqlite.specs.Order.{Row, value_cmp}
use Rattle.sqlite.specs.Tree.{rowid, put_row}
use Rattle.sqlite.specs.Edit.{id_in, with_rowid}
use Rattle.sqlite.specs.Rowids.TheVariants.{Chosen}
use Rattle.sqlite_value.proofs.OrderLemmas.{value_cmp-Int}
use Rattle.tables.specs.Rows.{first_number, id_cell, id_int, Numbered, stored, Rises, next_from, added}

pub past : {X : Type 0} (k : ℕ) (xs : Numbered X) → Rises xs → AllByRecursion (λ x. k < x.0) xs → k < next_from (k + 1) xs
past k [] up all = omega arith
past k (x ∷ xs) up all = let more = past x.0 xs up.1 up.0 in omega (arith, all.0, more)

pub below_next : {X : Type 0} (top : ℕ) (xs : Numbered X) → Rises xs → AllByRecursion (λ x. x.0 < next_from top xs) xs
below_next top [] up = tt
below_next top (x ∷ xs) up = (past x.0 xs up.1 up.0, below_next (x.0 + 1) xs up.1)

less : (m n : ℕ) → m < n → value_cmp (id_cell m) (id_cell n) ≡ Less
less m n h = value_cmp-Int (id_int m) (id_int n) ∙ sym (int_cmp_is (id_int m) (id_int n) Less (omega (arith, ints, lt→ltb, h)))

put_last : {X : Type 0} (cells : X → Row) (xs : Numbered X) (id : ℕ) (row : Row) → AllByRecursion (λ x. x.0 < id) xs
    → put_row (id_cell id ∷ row) (map (stored cells) xs) ≡ map (stored cells) xs ++ (id_cell id ∷ row) ∷ []
put_last cells [] id row all = refl
put_last cells (x ∷ xs) id row all = rw (less x.0 id all.0) (ap (λ rows. stored cells x ∷ rows) (put_last cells xs id row all.1))

one_more : (n : ℕ) → id_int n +ℤ pos 1 ≡ id_int (n + 1)
one_more n = omega (arith, ints)

pub next_is : {X : Type 0} (cells : X → Row) (top : ℕ) (xs : Numbered X) → fold (λ _ r. id_in (rowid r) +ℤ pos 1) (id_int top) (map (stored cells) xs) ≡ id_int (next_from top xs)
next_is cells top [] = refl
next_is cells top (x ∷ xs) =
    ap (λ z. fold (λ _ r. id_in (rowid r) +ℤ pos 1) z (map (stored cells) xs)) (one_more x.0) ∙ next_is cells (x.0 + 1) xs

map_last : {X : Type 0} (cells : X → Row) (xs : Numbered X) (x : ℕ × X) → map (stored cells) (xs ++ x ∷ []) ≡ map (stored cells) xs ++ stored cells x ∷ []
map_last cells [] x = refl
map_last cells (y ∷ xs) x = ap (λ rows. stored cells y ∷ rows) (map_last cells xs x)

pub put_added : {X : Type 0} (cells : X → Row) (xs : Numbered X) (x : X) → Rises xs
    → put_row (with_rowid Chosen (map (stored cells) xs) (Null ∷ cells x)) (map (stored cells) xs) ≡ map (stored cells) (added xs x)
put_added cells xs x up =
    ap (λ id. put_row (Int id ∷ cells x) (map (stored cells) xs)) (next_is cells first_number xs)
    ∙ put_last cells xs (next_from first_number xs) (cells x) (below_next first_number xs up)
    ∙ sym (map_last cells xs (next_from first_number xs, x))

rises_last : {X : Type 0} (xs : Numbered X) (x : ℕ × X) → Rises xs → AllByRecursion (λ y. y.0 < x.0) xs → Rises (xs ++ x ∷ [])
rises_last [] x up all = (tt, tt)
rises_last (y ∷ xs) x up all = (all_last xs up.0, rises_last xs x up.1 all.1)
  where
    all_last : (zs : Numbered _) → AllByRecursion (λ z. y.0 < z.0) zs → AllByRecursion (λ z. y.0 < z.0) (zs ++ x ∷ [])
    all_last [] h = (all.0, tt)
    all_last (z ∷ zs) h = (h.0, all_last zs h.1)

pub rises_added : {X : Type 0} (xs : Numbered X) (x : X) → Rises xs → Rises (added xs x)
rises_added xs x up = rises_last xs (next_from first_number xs, x) up (below_next first_number xs up)
