-- Bodies that are taken away one after another.
use Rattle.std.proofs.Common.{◌≡◌, ℕ, Bool, true, not, nat_eq, List, [], ◌∷◌, filter, fold, refl, sym, ◌∙◌}
use Rattle.std.specs.List.{list_any}
use Rattle.sqlite_keyed.specs.Lists.{delete_where}
use Rattle.sqlite_keyed.proofs.ListLemmas.{all_of, filter_all}
use Rattle.tables.specs.Pieces.{is_of}
use Rattle.tables.specs.Rows.{Tables, without}
use Rattle.tables_meaning.specs.Finished.{without_all, without_whole}
use Rattle.tables_meaning.proofs.Searches.{filter_twice}
use Rattle.suites.proofs.ListTests.{not_either}

-- what is taken out number by number is taken out at once
pub taken_out : {X : Type 0} (q : ℕ → X → Bool) (ids : List ℕ) (xs : List X) → fold (λ rest n. delete_where (q n) rest) xs ids ≡ delete_where (λ x. list_any (λ n. q n x) ids) xs
taken_out q [] xs = sym (filter_all (λ _. true) xs (all_of _ (λ _. refl) xs))
taken_out q (n ∷ ns) xs =
    taken_out q ns (delete_where (q n) xs) ∙ sym (filter_twice (λ x. not (q n x)) (λ x. not (list_any (λ m. q m x) ns)) xs)
    ∙ (λ i. filter (λ x. (sym (not_either (q n x) (list_any (λ m. q m x) ns))) i) xs)

pub removed_each : (ids : List ℕ) (t : Tables)
    → without_all ids t ≡ record t { bodies = fold (λ rest n. without (λ x. nat_eq x.0 n) rest) t.bodies ids; pieces = fold (λ rest n. without (λ x. is_of n x.1) rest) t.pieces ids }
removed_each [] t = refl
removed_each (n ∷ ns) t = removed_each ns (without_whole n t)
