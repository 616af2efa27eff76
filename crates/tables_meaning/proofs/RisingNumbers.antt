-- A binary search of numbers in rising order.
use Rattle.std.proofs.Common.{◌≡◌, ℕ, nat_eq, Result, Ok, Err, List, get_or, sym, ⊎_elim, arith}
use Rattle.std.specs.Prelude.{is_ok}
use Rattle.std.specs.List.{list_any}
use Rattle.std.specs.List.Sorted.{IsBinarySearchResult, IsNonDecreasing}
use Rattle.std.specs.Ordering.{nat_cmp}
use Rattle.std.proofs.lemmas.Bool.{cases_lt, eq-eqb, ne_eqb}
use Rattle.std.proofs.lemmas.List.{get_or_default}
use Rattle.std.proofs.lemmas.List.Folds.{list_any_at, list_any_none}
use Rattle.std.proofs.lemmas.List.Sorted.{searched}

-- a binary search finds a number exactly if it is among these
pub found_among : (numbers : List ℕ) (id : ℕ) (r : Result ℕ ℕ) → IsNonDecreasing numbers → IsBinarySearchResult (λ y. nat_cmp y id) numbers r → is_ok r ≡ list_any (λ n. nat_eq n id) numbers
found_among numbers id (Ok i) rise found =
    let at = searched numbers id (Ok i) found (λ i j le within. rise i j 0 le within) in
    sym (list_any_at (λ n. nat_eq n id) numbers i 0 at.0 (eq-eqb (get_or numbers i 0) id at.1))
found_among numbers id (Err i) rise found =
    let at = searched numbers id (Err i) found (λ i j le within. rise i j 0 le within) in
    sym
    (list_any_none (λ n. nat_eq n id) numbers
    (λ k d within. ne_eqb (get_or numbers k d) id
    (λ e.
    let same = get_or_default numbers k d 0 within in
    ⊎_elim (λ l. absurd (omega (arith, at.1 k l, e, same))) (λ l. absurd (omega (arith, at.2 k l within, e, same))) (cases_lt k i))))
