-- Rows of dates, looked up suite by suite.
use Rattle.std.proofs.Common.{◌≡◌, ◌≢◌, ◌<◌, ℕ, zero, suc, ◌+◌, List, [], ◌∷◌, ◌++◌, length, map, take, get_or, IsPermutation, refl, sym, ap, subst, ◌∙◌, arith}
use Rattle.std.specs.List.{zip}
use Rattle.std.specs.Prelude.{All, AllPairs, Contains}
use Rattle.std.proofs.lemmas.List.{length-map, map-append, take_more}
use Rattle.std.proofs.lemmas.List.Elements.{All-append, All-from_get_or, recursion_from_All}
use Rattle.std.proofs.lemmas.List.Sorted.{IsPermutation-sym, length_permutation}
use Rattle.std.proofs.lemmas.Slice.Zip.{length-zip}
use Rattle.sqlite_trees.specs.Tree.{IsAscending}
use Rattle.sums.proofs.Members.{all_from, here, pairs_head, pairs_tail, there}
use Rattle.tables_meaning.specs.Kept.{date_row}
use Rattle.tables_meaning.specs.OneBook.{no_date}
use Rattle.tables_meaning.proofs.Orders.{contained_permutes}
use Rattle.rules.specs.declared.suite.Suite.{Suite}
use Rattle.tables.specs.Rows.{Numbered, rows_of}
use Rattle.tables.specs.declared.rows.Date.{Date}

-- there are as many rows that are the dates of suites as there are suites
pub as_many : (rows : Numbered Date) (suites : List Suite) (dates : List ℕ) → IsPermutation (rows_of rows) (map date_row (zip suites dates)) → length dates ≡ length suites → length rows ≡ length suites
as_many rows suites dates same long =
    omega (arith, length_permutation _ _ same, length-map rows (λ (x : ℕ × Date). x.1), length-map (zip suites dates) date_row, length-zip suites dates, long)

-- the date of each suite is among the rows
pub date_at : (suites : List Suite) (dates : List ℕ) (i : ℕ) (s : Suite) → length dates ≡ length suites → i < length suites → s ≡ get_or suites i s
    → Contains (map date_row (zip suites dates)) (date_row (s, get_or dates i 0))
date_at [] dates i s long within is = absurd (omega arith)
date_at (u ∷ us) [] i s long within is = absurd (omega arith)
date_at (u ∷ us) (d ∷ ds) zero s long within is =
    subst (λ v. Contains (date_row (u, d) ∷ map date_row (zip us ds)) (date_row (v, d))) (sym is) (here (date_row (u, d)) (map date_row (zip us ds)))
date_at (u ∷ us) (d ∷ ds) (suc i) s long within is =
    there (date_row (u, d)) (date_row (s, get_or ds i 0)) (map date_row (zip us ds)) (date_at us ds i s (omega arith) (omega arith) is)

zip_more : (suites : List Suite) (dates : List ℕ) (s : Suite) (d : ℕ) → length dates ≡ length suites → zip (suites ++ s ∷ []) (dates ++ d ∷ []) ≡ zip suites dates ++ (s, d) ∷ []
zip_more [] [] s d e = refl
zip_more [] (b ∷ bs) s d e = absurd (omega (arith, e))
zip_more (a ∷ as') [] s d e = absurd (omega (arith, e))
zip_more (a ∷ as') (b ∷ bs) s d e = ap (λ xs. (a, b) ∷ xs) (zip_more as' bs s d (omega (arith, e)))

pub all_one : {X : Type 0} (P : X → Type 0) (x : X) → P x → All P (x ∷ [])
all_one P x p = All-from_get_or P (x ∷ []) x at
  where
    at : (i : ℕ) → i < 1 → P (get_or (x ∷ []) i x)
    at zero within = p
    at (suc i) within = absurd (omega arith)

-- one more suite has its date among the rows
pub dates_more : (rows : List Date) (suites : List Suite) (dates : List ℕ) (i d : ℕ) (s : Suite) → i < length suites → s ≡ get_or suites i s → length dates ≡ length (take i suites)
    → All (Contains rows) (map date_row (zip (take i suites) dates)) → Contains rows (date_row (s, d)) → All (Contains rows) (map date_row (zip (take (i + 1) suites) (dates ++ d ∷ [])))
dates_more rows suites dates i d s within is long before own =
    let front : take (i + 1) suites ≡ take i suites ++ s ∷ [] = take_more suites i s within ∙ ap (λ u. take i suites ++ u ∷ []) (sym is) in
    let all : map date_row (zip (take (i + 1) suites) (dates ++ d ∷ [])) ≡ map date_row (zip (take i suites) dates) ++ date_row (s, d) ∷ [] =
    ap (λ us. map date_row (zip us (dates ++ d ∷ []))) front
    ∙ ap (map date_row) (zip_more (take i suites) dates s d long)
    ∙ map-append date_row (zip (take i suites) dates) ((s, d) ∷ []) in
    subst (All (Contains rows)) (sym all) (All-append (Contains rows) (map date_row (zip (take i suites) dates)) (date_row (s, d) ∷ []) before (all_one (Contains rows) (date_row (s, d)) own))

-- the rows of suites that have different codenames differ
rows_apart : (suites : List Suite) (dates : List ℕ) → AllPairs (λ s u. s.codename ≢ u.codename) suites → IsAscending (λ a b. a ≢ b) (map date_row (zip suites dates))
rows_apart [] dates apart = tt
rows_apart (s ∷ ss) [] apart = tt
rows_apart (s ∷ ss) (d ∷ ds) apart = (
  recursion_from_All (λ b. date_row (s, d) ≢ b) (map date_row (zip ss ds))
      (all_from (λ b. date_row (s, d) ≢ b) (map date_row (zip ss ds))
      (λ b at same. no_date s.codename ss ds b (pairs_head (λ (s u : Suite). s.codename ≢ u.codename) s ss apart) at (sym (ap (λ (r : Date). r.suite) same)))),
  rows_apart ss ds (pairs_tail (λ (s u : Suite). s.codename ≢ u.codename) s ss apart),
)

-- rows are these dates if they are as many and the date of each suite is among them
pub dates_are : (rows : Numbered Date) (suites : List Suite) (dates : List ℕ) → AllPairs (λ s u. s.codename ≢ u.codename) suites → length rows ≡ length suites → length dates ≡ length suites
    → All (Contains (rows_of rows)) (map date_row (zip suites dates)) → IsPermutation (rows_of rows) (map date_row (zip suites dates))
dates_are rows suites dates apart many long all =
    IsPermutation-sym _ _
    (contained_permutes (map date_row (zip suites dates)) (rows_of rows) (rows_apart suites dates apart) (recursion_from_All (Contains (rows_of rows)) (map date_row (zip suites dates)) all)
    (omega (arith, length-map rows (λ (x : ℕ × Date). x.1), length-map (zip suites dates) date_row, length-zip suites dates, many, long)))
