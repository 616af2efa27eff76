-- Lists of rows that are gone over one by one.
use Rattle.std.proofs.Common.{◌≡◌, ◌↔◌, ℕ, zero, suc, ◌+◌, ◌<◌, ◌≤◌, Bool, true, false, cond, nat_eq, Option, Some, None, option_map, slice_get, List, [], ◌∷◌, ◌++◌, map, filter, drop, take, length, get_or, All, Contains, refl, sym, ap, ap₂, subst, ◌∙◌, arith, MatchBool, true≢false}
use Rattle.std.specs.List.{AllByRecursion, range_with_len}
use Rattle.std.proofs.lemmas.Bool.Decides.{Decides-eqb}
use Rattle.std.proofs.lemmas.List.{drop_all, drop_more, get_or-map, length-append, length-drop, length-map, map-append, map_more, take-append-drop, take_all, take_more}
use Rattle.std.proofs.lemmas.List.Elements.{All-cons, All-head, All-tail, All-contains, All-from_recursion, filter-append}
use Rattle.std.proofs.lemmas.List.FromFn.{get_or-map-range_with_len, length-map-range_with_len}
use Rattle.tables.specs.Rows.{Numbered, rows_of}

module _ {X : Type 0} (xs : Numbered X) (i : ℕ) (x : ℕ × X) (within : i < length xs) (is : x ≡ get_or xs i x) where
  -- the rows that are left, from a row on
  pub rows_left : rows_of (drop i xs) ≡ x.1 ∷ rows_of (drop (i + 1) xs)
  rows_left = ap (λ (l : Numbered X). rows_of l) (drop_more xs i x within ∙ ap (λ (y : ℕ × X). y ∷ drop (i + 1) xs) (sym is))

  -- the rows so far, with one more
  pub rows_more : rows_of (take (i + 1) xs) ≡ rows_of (take i xs) ++ x.1 ∷ []
  rows_more =
      ap (λ (l : Numbered X). rows_of l) (take_more xs i x within ∙ ap (λ (y : ℕ × X). take i xs ++ y ∷ []) (sym is))
      ∙ map-append (λ (y : ℕ × X). y.1) (take i xs) (x ∷ [])

  pub all_step : (P : X → Type 0) → P x.1 → All P (rows_of xs) ↔ All P (rows_of (drop i xs)) → All P (rows_of xs) ↔ All P (rows_of (drop (i + 1) xs))
  all_step P p h = (
    λ all. All-tail P x.1 (rows_of (drop (i + 1) xs)) (subst (All P) rows_left (h.0 all)),
    λ rest. h.1 (subst (All P) (sym rows_left) (All-cons P x.1 (rows_of (drop (i + 1) xs)) p rest)),
  )

  pub all_fails : (P : X → Type 0) → (P x.1 → ⊥) → All P (rows_of xs) ↔ All P (rows_of (drop i xs)) → All P (rows_of xs) → ⊥
  all_fails P fails h all = fails (All-head P x.1 (rows_of (drop (i + 1) xs)) (subst (All P) rows_left (h.0 all)))

-- a filter leaves an element that passes its test
pub passes_stays : {X : Type 0} (q : X → Bool) (xs : List X) (i : ℕ) (x : X) → i < length xs → x ≡ get_or xs i x → q x ≡ true → filter q xs ≡ [] → ⊥
passes_stays q xs i x within is passes none =
    let parts : filter q xs ≡ filter q (take i xs) ++ x ∷ filter q (drop (i + 1) xs) =
    ap (filter q) (sym (take-append-drop i xs) ∙ ap (λ l. take i xs ++ l) (drop_more xs i x within ∙ ap (λ y. y ∷ drop (i + 1) xs) (sym is)))
    ∙ filter-append q (take i xs) (x ∷ drop (i + 1) xs)
    ∙ ap (λ b. filter q (take i xs) ++ cond b (x ∷ filter q (drop (i + 1) xs)) (filter q (drop (i + 1) xs))) passes in
    let long : length (filter q (take i xs)) + suc (length (filter q (drop (i + 1) xs))) ≡ 0 = sym (length-append (filter q (take i xs)) (x ∷ filter q (drop (i + 1) xs))) ∙ ap length (sym parts ∙ none) in
    absurd (omega (arith, long))

-- Two lists gone over side by side, once one of them is at its end.
pub same_end : {Y Z : Type 0} (E : Type 0) (G : List Y → List Z) (left : List Z) (ys : List Y) (next : ℕ)
    → [] ≡ G [] → ((y : Y) (zs : List Y) → [] ≡ G (y ∷ zs) → ⊥) → left ≡ [] → next ≤ length ys → E ↔ (left ≡ G (drop next ys))
    → MatchBool (nat_eq next (length ys)) E (E → ⊥)
same_end {Y} {Z} E G left ys next nil cons none within h = go (nat_eq next (length ys)) refl
  where
    short : (zs : List Y) → 0 < length zs → [] ≡ G zs → ⊥
    short [] some e = omega arith
    short (z ∷ zs) some e = cons z zs e

    go : (b : Bool) → nat_eq next (length ys) ≡ b → MatchBool b E (E → ⊥)
    go true e =
        let all : next ≡ length ys = (Decides-eqb next (length ys)).0 e in
        let past : length ys ≤ next = omega arith in
        h.1 (none ∙ nil ∙ sym (ap G (drop_all next ys past)))
    go false e = λ q.
        let apart : next ≡ length ys → ⊥ = λ k. true≢false (sym ((Decides-eqb next (length ys)).1 k) ∙ e) in
        let there : next < length ys = omega (arith, apart) in
        let some : 0 < length (drop next ys) = omega (arith, length-drop next ys) in
        short (drop next ys) some (sym none ∙ h.0 q)

-- None is among the values of a range if the value at a place of it is None
pub none_in_range : {X : Type 0} (f : ℕ → Option X) (last at : ℕ) → at < last → f (at + 1) ≡ None → Contains (map f (range_with_len 1 last)) None
none_in_range f last at within e = (
  at,
  omega (arith, length-map-range_with_len f 1 last),
  get_or-map-range_with_len f 1 last at (at + 1) None within (omega arith) ∙ e,
)

-- None is not among values that are all Some
pub none_among : {X : Type 0} (xs : List X) → Contains (map (λ (x : X). Some x) xs) None → ⊥
none_among {X} xs has = All-contains (λ (o : Option X). o ≡ None → ⊥) (map (λ (x : X). Some x) xs) None (All-from_recursion (λ (o : Option X). o ≡ None → ⊥) (map (λ (x : X). Some x) xs) (there xs)) has refl
  where
    there : (ys : List X) → AllByRecursion (λ (o : Option X). o ≡ None → ⊥) (map (λ (x : X). Some x) ys)
    there [] = tt
    there (y ∷ ys) = (λ (e : Some y ≡ None). cc, there ys)

pub same_somes : {X : Type 0} (xs ys : List X) → map (λ (x : X). Some x) xs ≡ map (λ (x : X). Some x) ys → xs ≡ ys
same_somes [] [] e = refl
same_somes [] (y ∷ ys) e = cc
same_somes (x ∷ xs) [] e = cc
same_somes {X} (x ∷ xs) (y ∷ ys) e =
    let one : x ≡ y = cc in
    let rest : map (λ (z : X). Some z) xs ≡ map (λ (z : X). Some z) ys = cc in
    ap₂ ◌∷◌ one (same_somes xs ys rest)

pub slice_get-map : {X Y : Type 0} (f : X → Y) (xs : List X) (n : ℕ) → slice_get (map f xs) n ≡ option_map f (slice_get xs n)
slice_get-map f [] n = refl
slice_get-map f (x ∷ xs) zero = refl
slice_get-map f (x ∷ xs) (suc n) = slice_get-map f xs n

pub slice_get-range : (from n i : ℕ) → i < n → slice_get (range_with_len from n) i ≡ Some (from + i)
slice_get-range from zero i h = absurd (omega arith)
slice_get-range from (suc n) zero h = ap Some (omega arith)
slice_get-range from (suc n) (suc i) h = slice_get-range (from + 1) n i (omega arith) ∙ ap Some (omega arith)

-- two lists with the same elements at all places are equal
pub from_slices : {X : Type 0} (f : ℕ → Option X) (from : ℕ) (xs : List X) → ((n : ℕ) → f (from + n) ≡ slice_get xs n)
    → map f (range_with_len from (length xs)) ≡ map (λ (x : X). Some x) xs
from_slices f from [] h = refl
from_slices f from (x ∷ xs) h =
    ap₂ ◌∷◌ (let e : from + 0 ≡ from = omega arith in subst (λ n. f n ≡ Some x) e (h 0))
    (from_slices f (from + 1) xs (λ n. let e : from + suc n ≡ from + 1 + n = omega arith in subst (λ m. f m ≡ slice_get xs n) e (h (suc n))))

-- Two lists gone over side by side by place.
module _ {X Y Z : Type 0} (f : X → Z) (g : Y → Z) (xs : List X) (ys : List Y) (i : ℕ) (x : X) (y : Y) (inside : i < length xs) (within : i < length ys) (is : x ≡ get_or xs i x) (at : y ≡ get_or ys i y) where
  pub pair_differs : (f x ≡ g y → ⊥) → map f xs ≡ map g ys → ⊥
  pair_differs apart e =
      apart (ap f is ∙ sym (get_or-map f xs i x (f x) inside) ∙ ap (λ (l : List Z). get_or l i (f x)) e ∙ get_or-map g ys i y (f x) within ∙ ap g (sym at))

  pub pair_more : f x ≡ g y → map f (take i xs) ≡ map g (take i ys) → map f (take (i + 1) xs) ≡ map g (take (i + 1) ys)
  pair_more same so_far =
      map_more f xs i x inside ∙ ap (λ z. map f (take i xs) ++ f z ∷ []) (sym is)
      ∙ ap₂ (λ l z. l ++ z ∷ []) so_far same
      ∙ sym (map_more g ys i y within ∙ ap (λ z. map g (take i ys) ++ g z ∷ []) (sym at))

pub pairs_differ : {X Y Z : Type 0} (f : X → Z) (g : Y → Z) (xs : List X) (ys : List Y) → (length xs ≡ length ys → ⊥) → map f xs ≡ map g ys → ⊥
pairs_differ f g xs ys apart e = apart (sym (length-map xs f) ∙ ap length e ∙ length-map ys g)

pub pairs_all : {X Y Z : Type 0} (f : X → Z) (g : Y → Z) (xs : List X) (ys : List Y) (n : ℕ) → length xs ≤ n → length xs ≡ length ys → map f (take n xs) ≡ map g (take n ys) → map f xs ≡ map g ys
pairs_all f g xs ys n all same e = ap (map f) (sym (take_all n xs all)) ∙ e ∙ ap (map g) (take_all n ys (omega (arith, all, same)))
