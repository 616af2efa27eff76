-- Steps of loops over suites, items and prints.
use Rattle.std.proofs.Common.{◌≡◌, ℕ, ◌+◌, ◌<◌, ◌≤◌, ◌^◌, ◌-◌, Bool, true, false, cond, min, Bor, List, [], ◌∷◌, ◌++◌, map, length, take, drop, get_or, sym, ap, ◌∙◌, arith}
use Rattle.std.specs.List.{enumerate_from, flat_map, list_any}
use Rattle.std.proofs.lemmas.List.{append-nil, append_assoc, drop_more, map-append, take_more, take_all}
use Rattle.std.proofs.lemmas.List.FromFn.{get_or-enumerate_from, length-enumerate_from}
use Rattle.std.proofs.lemmas.Grind.{flat_map-append}
use Rattle.std.proofs.lemmas.Simd.{map-map}
use Rattle.suites.specs.Pool.{files_of, pair_of}
use Rattle.suites.specs.declared.item.Item.{Item}
use Rattle.suites.specs.declared.item.PoolFile.{PoolFile}
use Rattle.suites.specs.declared.key.ShelfKey.{ShelfKey}
use Rattle.sums.specs.Prints.{same_print}
use Rattle.sums.specs.declared.print.Print.{Print}
use Rattle.figures.specs.Numbers.{bytes_of, each_once, size_of}

-- ---- suites with their positions

module _ {X : Type 0} (xs : List X) (i : ℕ) (x : X) (within : i < length xs) (at : x ≡ get_or xs i x) where
  one_more : take (i + 1) (enumerate_from 0 xs) ≡ take i (enumerate_from 0 xs) ++ (i, x) ∷ []
  one_more =
      take_more (enumerate_from 0 xs) i (i, x) (rw (length-enumerate_from 0 xs) within)
      ∙ ap (λ (e : ℕ × X). take i (enumerate_from 0 xs) ++ e ∷ []) (get_or-enumerate_from 0 xs i (i, x) within ∙ ap (λ (n : ℕ). (n, get_or xs i x)) (omega arith) ∙ ap (λ (y : X). (i, y)) (sym at))

  -- what is made of one more
  pub mapped_more : {Y : Type 0} (h : ℕ × X → Y) (made now : List Y) → now ≡ made ++ h (i, x) ∷ [] → made ≡ map h (take i (enumerate_from 0 xs))
      → now ≡ map h (take (i + 1) (enumerate_from 0 xs))
  mapped_more h made now pushed is =
      pushed ∙ ap (λ (ys : List _). ys ++ h (i, x) ∷ []) is
      ∙ sym (map-append h (take i (enumerate_from 0 xs)) ((i, x) ∷ []))
      ∙ ap (map h) (sym one_more)

  pub spread_more : {Y : Type 0} (h : ℕ × X → List Y) (made now : List Y) → now ≡ made ++ h (i, x) → made ≡ flat_map h (take i (enumerate_from 0 xs))
      → now ≡ flat_map h (take (i + 1) (enumerate_from 0 xs))
  spread_more h made now pushed is =
      pushed ∙ ap (λ (ys : List _). ys ++ h (i, x)) is
      ∙ ap (λ (ys : List _). flat_map h (take i (enumerate_from 0 xs)) ++ ys) (sym (append-nil (h (i, x))))
      ∙ sym (flat_map-append h (take i (enumerate_from 0 xs)) ((i, x) ∷ []))
      ∙ ap (flat_map h) (sym one_more)

-- all positions are taken
pub all_taken : {X : Type 0} (xs : List X) (i : ℕ) → length xs ≤ i → take i (enumerate_from 0 xs) ≡ enumerate_from 0 xs
all_taken xs i past = take_all i (enumerate_from 0 xs) (rw (length-enumerate_from 0 xs) past)

-- ---- prints, each once

module _ (p : Print) (prints : List Print) where
  abbrev picked : Bool → List Print
  picked b = cond b (each_once prints) (p ∷ each_once prints)

  -- a print that is new is one more
  pub once_more : list_any (same_print p) prints ≡ false → each_once (p ∷ prints) ≡ p ∷ each_once prints
  once_more new = ap picked new

  -- a print that is not new is none more
  pub once_again : list_any (same_print p) prints ≡ true → each_once (p ∷ prints) ≡ each_once prints
  once_again old = ap picked old

-- what is left of a list, from the back
pub left_more : {X : Type 0} (xs : List X) (left : ℕ) (d : X) → 0 < left → left ≤ length xs → get_or xs (left - 1) d ∷ drop left xs ≡ drop (left - 1) xs
left_more xs left d some within =
    let at : left - 1 + 1 ≡ left = omega arith in
    ap (λ (n : ℕ). get_or xs (left - 1) d ∷ drop n xs) (sym at) ∙ sym (drop_more xs (left - 1) d (omega arith))

-- a sum that does not go past the top, with one more
saturated : (size sum top : ℕ) → min (min sum top + size) top ≡ min (size + sum) top
saturated size sum top = omega arith

-- the bytes with those of one more
pub bytes_more : (p : Print) (prints : List Print) (bytes : ℕ) → bytes ≡ bytes_of prints → min (bytes + p.size) (2 ^ 64 - 1) ≡ bytes_of (p ∷ prints)
bytes_more p prints bytes is = ap (λ (b : ℕ). min (b + p.size) (2 ^ 64 - 1)) is ∙ saturated p.size (size_of prints) (2 ^ 64 - 1)

-- ---- prints of the pool

abbrev pub prints_in : List (Bor ShelfKey × Bor Item) → List Print
prints_in items = map (λ (f : List ℕ × Print). f.1) (files_of (map (λ e. e.1.now) items))

-- the prints of the files of one item more
pub prints_more : (items : List (Bor ShelfKey × Bor Item)) (e : Bor ShelfKey × Bor Item) (files : List PoolFile) (old so_far now : List Print) → files ≡ e.1.now.files
    → so_far ≡ old ++ prints_in items → now ≡ so_far ++ map (λ (f : PoolFile). f.print) files → now ≡ old ++ prints_in (items ++ e ∷ [])
prints_more items e files old so_far now of_item is more =
    let before = map (λ (x : Bor ShelfKey × Bor Item). x.1.now) items in
    more
    ∙ ap (λ (ps : List Print). ps ++ map (λ (f : PoolFile). f.print) files) is
    ∙ append_assoc old (prints_in items) (map (λ (f : PoolFile). f.print) files)
    ∙ ap (λ (ps : List Print). old ++ ps) (
    ap (λ (ps : List Print). prints_in items ++ ps)
    (ap (map (λ (f : PoolFile). f.print)) of_item ∙ sym (map-map (λ (f : List ℕ × Print). f.1) pair_of e.1.now.files))
    ∙ sym (map-append (λ (f : List ℕ × Print). f.1) (files_of before) (map pair_of e.1.now.files))
    ∙ ap (map (λ (f : List ℕ × Print). f.1)) (
    ap (λ fs. files_of before ++ fs) (sym (append-nil (map pair_of e.1.now.files)))
    ∙ sym (flat_map-append (λ (item : Item). map pair_of item.files) before (e.1.now ∷ []))
    ∙ ap files_of (sym (map-append (λ (x : Bor ShelfKey × Bor Item). x.1.now) items (e ∷ [])))
    )
    )
