-- What a change of the shelves does to the references that items have to a path.
use Rattle.std.proofs.Common.{◌≡◌, ℕ, ◌+◌, List, [], ◌∷◌, ◌++◌, map, length, refl, sym, ap, ◌∙◌, length-append}
use Rattle.std.specs.Prelude.{bytes_eq, filter}
use Rattle.std.specs.FinMap.{entries, values}
use Rattle.std.proofs.lemmas.List.Elements.{filter-append}
use Rattle.sums.specs.declared.print.Print.{Print}
use Rattle.suites.specs.Change.{IsChange}
use Rattle.suites.specs.Counts.{count_at}
use Rattle.suites.specs.KeyLemmas.{key_order_total, key_order-IsAntisymmetric}
use Rattle.suites.specs.Pool.{pair_of, files_of}
use Rattle.suites.specs.Shelves.{ShelvesValue}
use Rattle.suites.specs.declared.item.Item.{Item}
use Rattle.suites.specs.declared.key.ShelfKey.{ShelfKey}
use Rattle.suites.proofs.MapChanges.{weigh, weigh-change}

pub count_at-append : (path : List ℕ) (xs ys : List (List ℕ × Print)) → count_at path (xs ++ ys) ≡ count_at path xs + count_at path ys
unfolding count_at
count_at-append path xs ys =
    ap length (filter-append (λ f. bytes_eq f.0 path) xs ys)
    ∙ length-append (filter (λ f. bytes_eq f.0 path) xs) (filter (λ f. bytes_eq f.0 path) ys)

pub count_at-nil : (path : List ℕ) → count_at path [] ≡ 0
unfolding count_at
count_at-nil path = refl

-- how many references an item has to the path
abbrev pub references_to : List ℕ → Item → ℕ
references_to path item = count_at path (map pair_of item.files)

pub count-items : {K : Type 0} (path : List ℕ) (es : List (K × Item)) → count_at path (files_of (map (λ e. e.1) es)) ≡ weigh (references_to path) es
count-items path [] = count_at-nil path
count-items path (e ∷ es) =
    count_at-append path (map pair_of e.1.files) (files_of (map (λ f. f.1) es))
    ∙ ap (λ n. count_at path (map pair_of e.1.files) + n) (count-items path es)

-- Of the references to a path, a change adds those of what is put and takes away those of what is dropped.
pub count-change : (path : List ℕ) (old new : ShelvesValue) (put dropped : List (ShelfKey × Item)) → IsChange old new put dropped
    → count_at path (files_of (values new)) + count_at path (files_of (map (λ e. e.1) dropped))
    ≡ count_at path (files_of (values old)) + count_at path (files_of (map (λ e. e.1) put))
count-change path old new put dropped c =
    (λ i. count-items path (entries new) i + count-items path dropped i)
    ∙ weigh-change key_order_total key_order-IsAntisymmetric (references_to path) old new put dropped c
    ∙ sym (λ i. count-items path (entries old) i + count-items path put i)
