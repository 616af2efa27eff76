-- What the query for the rows of a table answers, whatever it holds.
use Rattle.std.proofs.Common.{◌≡◌, ℕ, List, [], ◌∷◌, map, flat_map, refl, ap, ◌∙◌, subst}
use Rattle.std.specs.List.{AllByRecursion}
use Rattle.std.proofs.lemmas.List.Elements.{All-from_recursion, recursion_from_All}
use Rattle.std.proofs.lemmas.List.Sorted.{All-permutation, IsPermutation-sym}
use Rattle.sqlite.specs.Order.{Row}
use Rattle.sqlite.specs.Tree.{Trees}
use Rattle.sqlite.specs.Query.{inner, end, IsAnswer}
use Rattle.sqlite.specs.Term.{Term}
use Rattle.sqlite_sql.specs.Term.{eval_all, Env}
use Rattle.sqlite_sql.specs.Query.{matches, output, Output}
use Rattle.sqlite_keyed.proofs.ListLemmas.{all_unmap}
use Rattle.tables.proofs.SelectLemmas.{rows_query}

singles : {A B : Type 0} (f : A → B) (xs : List A) → flat_map (λ x. f x ∷ []) xs ≡ map f xs
singles f [] = refl
singles f (x ∷ xs) = ap (λ l. f x ∷ l) (singles f xs)

matches_all : (db : Trees) (tree : ℕ) → matches db [] (inner tree end) ([] ∷ []) ≡ map (λ r. [] ∷ r ∷ []) (db tree)
matches_all db tree = singles (λ r. [] ∷ r ∷ []) (db tree)

-- what holds of each row of the answer holds of what is shown of each stored row
pub each_shown : (db : Trees) (tree : ℕ) (columns : List Term) (P : Row → Type 0) (rows : List Row) → IsAnswer (rows_query tree [] columns) db [] rows
    → AllByRecursion P rows → AllByRecursion (λ r. P (eval_all columns ([] ∷ r ∷ []))) (db tree)
each_shown db tree columns P rows a all =
    let q = rows_query tree [] columns in
    let ordered = all_unmap P (λ (o : Output). o.1) a.ordered (subst (AllByRecursion P) a.shown all) in
    let kept = recursion_from_All (λ (o : Output). P o.1) a.kept (All-permutation (λ (o : Output). P o.1) a.ordered a.kept (IsPermutation-sym a.kept a.ordered a.same) (All-from_recursion (λ (o : Output). P o.1) a.ordered ordered)) in
    let are : a.kept ≡ map (output q) (map (λ r. [] ∷ r ∷ []) (db tree)) = a.distinct ∙ ap (map (output q)) (a.grouped ∙ matches_all db tree) in
    all_unmap (λ (e : Env). P (eval_all columns e)) (λ r. [] ∷ r ∷ []) (db tree) (all_unmap (λ (o : Output). P o.1) (output q) (map (λ r. [] ∷ r ∷ []) (db tree)) (subst (AllByRecursion (λ (o : Output). P o.1)) are kept))
