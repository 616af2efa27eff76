-- A search finds something if and only if the test holds somewhere.
use Rattle.std.proofs.Common.{◌≡◌, ℕ, suc, ◌+◌, ◌<◌, Bool, true, false, not, ◌&&◌, ◌||◌, cond, List, [], ◌∷◌, Option, Some, filter, length, map, drop, get_or, refl, sym, ap, ◌∙◌, arith}
use Rattle.std.specs.Prelude.{find, is_some, nat_lt}
use Rattle.std.specs.List.{list_any, list_all}
use Rattle.std.specs.Option.{option_or}
use Rattle.std.proofs.lemmas.List.{drop_more}
use Rattle.std.proofs.lemmas.Bool.{lt-ltb}
use Rattle.reasons.specs.Named.{first_some}

pub found_where : {X : Type 0} (p : X → Bool) (xs : List X) → list_any p xs ≡ is_some (find p xs)
found_where p [] = refl
found_where p (x ∷ xs) = by_case (p x) (found_where p xs)
  where
    by_case : (b : Bool) → list_any p xs ≡ is_some (find p xs) → (b || list_any p xs) ≡ is_some (cond b (Some x) (find p xs))
    by_case true more = refl
    by_case false more = more

-- some are kept if and only if the test holds somewhere
pub counted_where : {X : Type 0} (p : X → Bool) (xs : List X) → nat_lt 0 (length (filter p xs)) ≡ list_any p xs
counted_where p [] = refl
counted_where p (x ∷ xs) = by_case (p x) (counted_where p xs)
  where
    by_case : (b : Bool) → nat_lt 0 (length (filter p xs)) ≡ list_any p xs → nat_lt 0 (length (cond b (x ∷ filter p xs) (filter p xs))) ≡ (b || list_any p xs)
    by_case true more = (lt-ltb 0 (suc (length (filter p xs))) (omega arith))
    by_case false more = more

-- not all pass if and only if one does not
pub not_all : {X : Type 0} (p : X → Bool) (xs : List X) → not (list_all p xs) ≡ list_any (λ x. not (p x)) xs
not_all p [] = refl
not_all p (x ∷ xs) = by_case (p x) (not_all p xs)
  where
    by_case : (b : Bool) → not (list_all p xs) ≡ list_any (λ y. not (p y)) xs → not (b && list_all p xs) ≡ (not b || list_any (λ y. not (p y)) xs)
    by_case true more = more
    by_case false more = refl

pub not_unless : (a b : Bool) → not (not a || b) ≡ (a && not b)
not_unless true b = refl
not_unless false b = refl

-- what is found of the first of the rest
pub found_at : {X P Y : Type 0} (h : P → Option Y) (v : X → P) (xs : List X) (i : ℕ) (x : X) (y : Y) → i < length xs → x ≡ get_or xs i x → h (v x) ≡ Some y
    → first_some (map h (map v (drop i xs))) ≡ Some y
found_at h v xs i x y less is found =
    ap (λ ys. first_some (map h (map v ys))) (drop_more xs i x less)
    ∙ ap (λ o. option_or o (first_some (map h (map v (drop (i + 1) xs))))) (ap (λ z. h (v z)) (sym is) ∙ found)
