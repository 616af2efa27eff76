-- Names that stand twice, and lists that disagree.
use Rattle.std.proofs.Common.{◌≡◌, ◌≢◌, ℕ, Bool, true, false, not, List, [], ◌∷◌, map, refl, sym, ap, ◌∙◌, arith}
use Rattle.std.proofs.lemmas.List.Kept.{AllPairs-cons}
use Rattle.std.proofs.lemmas.Slice.Eq.{bytes_eq-Decides}
use Rattle.std.specs.List.{list_any}
use Rattle.std.specs.Prelude.{Contains, AllPairs, All}
use Rattle.std.specs.Str.{bytes_eq}
use Rattle.sums.specs.Lists.{NameAndSize, has_twice, same_file, lacks}
use Rattle.sums.proofs.Members.{contains_map, from_map, any_true, any_false, any_none, any_some, all_at, all_from, pairs_head, pairs_tail}
use Rattle.sums.proofs.Booleans.{both, neither, passed}

pub same_bytes : (a b : List ℕ) → bytes_eq a b ≡ true → a ≡ b
same_bytes a b h = (bytes_eq-Decides a b).0 h

pub bytes_same : (a b : List ℕ) → a ≡ b → bytes_eq a b ≡ true
bytes_same a b h = (bytes_eq-Decides a b).1 h

bytes_differ : (a b : List ℕ) → a ≢ b → bytes_eq a b ≡ false
bytes_differ a b h = by_case (bytes_eq a b) refl
  where
    by_case : (t : Bool) → bytes_eq a b ≡ t → bytes_eq a b ≡ false
    by_case true e = absurd (h (same_bytes a b e))
    by_case false e = e

-- no name stands twice
pub once : {X : Type 0} (n : X → NameAndSize) (xs : List X) → has_twice (map n xs) ≡ false → AllPairs (λ a b. (n a).name ≢ (n b).name) xs
once n [] h = λ i j d lt l. absurd (omega arith)
once n (x ∷ xs) h =
    let p = neither (list_any (λ y. bytes_eq (n x).name y.name) (map n xs)) (has_twice (map n xs)) h in
    AllPairs-cons (λ a b. (n a).name ≢ (n b).name) x xs
    (all_from (λ b. (n x).name ≢ (n b).name) xs (λ y k e. absurd (cc (sym (any_false (λ z. bytes_eq (n x).name z.name) (map n xs) (n y) p.0 (contains_map n y xs k)) ∙ bytes_same (n x).name (n y).name e))))
    (once n xs p.1)

pub not_twice : {X : Type 0} (n : X → NameAndSize) (xs : List X) → AllPairs (λ a b. (n a).name ≢ (n b).name) xs → has_twice (map n xs) ≡ false
not_twice n [] h = refl
not_twice {X = X} n (x ∷ xs) h =
    let head = pairs_head (λ a b. (n a).name ≢ (n b).name) x xs h in
    let first : list_any (λ y. bytes_eq (n x).name y.name) (map n xs) ≡ false = any_none (λ y. bytes_eq (n x).name y.name) (map n xs) (λ z k. apart z (from_map n z xs k) head) in
    rw first (not_twice n xs (pairs_tail (λ a b. (n a).name ≢ (n b).name) x xs h))
  where
    apart : (z : NameAndSize) → (y : X) × Contains xs y × (n y ≡ z) → All (λ b. (n x).name ≢ (n b).name) xs → bytes_eq (n x).name z.name ≡ false
    apart z q head = bytes_differ (n x).name z.name (λ e. all_at (λ b. (n x).name ≢ (n b).name) xs q.0 head q.1 (e ∙ sym (ap (λ w. w.name) q.2)))

-- a file of a list that another does not lack stands there
pub in_other : {X Y : Type 0} (n : X → NameAndSize) (m : Y → NameAndSize) (xs : List X) (ys : List Y) (x : X) → lacks (map n xs) (map m ys) ≡ false → Contains xs x
    → (y : Y) × Contains ys y × ((m y).name ≡ (n x).name) × ((m y).size ≡ (n x).size)
in_other n m xs ys x h k =
    let some = any_some (same_file (n x)) (map m ys) (passed _ (any_false (λ w. not (list_any (same_file w) (map m ys))) (map n xs) (n x) h (contains_map n x xs k))) in
    let found = from_map m some.0 ys some.1 in
    let same = both (bytes_eq (n x).name some.0.name) (bytes_eq (n x).size some.0.size) some.2 in
    (found.0, found.1, ap (λ w. w.name) found.2 ∙ sym (same_bytes (n x).name some.0.name same.0), ap (λ w. w.size) found.2 ∙ sym (same_bytes (n x).size some.0.size same.1))

pub none_lacks : {X Y : Type 0} (n : X → NameAndSize) (m : Y → NameAndSize) (xs : List X) (ys : List Y) → ((x : X) → Contains xs x → (y : Y) × Contains ys y × ((m y).name ≡ (n x).name) × ((m y).size ≡ (n x).size))
    → lacks (map n xs) (map m ys) ≡ false
none_lacks {X = X} {Y = Y} n m xs ys f = any_none (λ w. not (list_any (same_file w) (map m ys))) (map n xs) (λ w k. here_too w (from_map n w xs k))
  where
    there_is : (x : X) (w : NameAndSize) → n x ≡ w → (y : Y) × Contains ys y × ((m y).name ≡ (n x).name) × ((m y).size ≡ (n x).size) → list_any (same_file w) (map m ys) ≡ true
    there_is x w e q =
        let a : bytes_eq w.name (m q.0).name ≡ true = bytes_same w.name (m q.0).name (sym (ap (λ v. v.name) e) ∙ sym q.2) in
        let b : bytes_eq w.size (m q.0).size ≡ true = bytes_same w.size (m q.0).size (sym (ap (λ v. v.size) e) ∙ sym q.3) in
        any_true (same_file w) (map m ys) (m q.0) (contains_map m q.0 ys q.1) (rw (a, b) refl)

    here_too : (w : NameAndSize) → (x : X) × Contains xs x × (n x ≡ w) → not (list_any (same_file w) (map m ys)) ≡ false
    here_too w q = ap not (there_is q.0 w q.2 (f q.0 q.1))
