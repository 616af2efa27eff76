-- The references of items, item by item and file by file.
use Rattle.std.proofs.Common.{◌≡◌, ℕ, zero, suc, ◌+◌, ◌<◌, List, [], ◌∷◌, ◌++◌, map, length, take, get_or, sym, ap, ◌∙◌, arith, append_assoc}
use Rattle.std.specs.List.{enumerate_from}
use Rattle.suites.specs.declared.key.ShelfKey.{ShelfKey}
use Rattle.suites.specs.declared.item.PoolFile.{PoolFile}
use Rattle.suites.specs.declared.plan.Reference.{Reference}

-- a file of the item on the shelf, by its number
abbrev pub numbered : ShelfKey → ℕ × PoolFile → Reference
numbered key f = record { key = key; number = f.0; path = f.1.path; print = f.1.print }

-- the references of the files of the item on the shelf
abbrev pub all_numbered : ShelfKey → List PoolFile → List Reference
all_numbered key files = map (numbered key) (enumerate_from 1 files)

numbered_from-more : (key : ShelfKey) (n : ℕ) (files : List PoolFile) (i j : ℕ) (d : PoolFile) → i < length files → n + i ≡ j
    → map (numbered key) (enumerate_from n (take (i + 1) files)) ≡ map (numbered key) (enumerate_from n (take i files)) ++ numbered key (j, get_or files i d) ∷ []
numbered_from-more key n [] i j d h e = absurd (omega arith)
numbered_from-more key n (f ∷ files) zero j d h e = (let same : n ≡ j = omega (arith, e) in ap (λ m. numbered key (m, f) ∷ []) same)
numbered_from-more key n (f ∷ files) (suc i) j d h e =
    let later : suc (i + 1) ≡ suc i + 1 = omega arith in
    ap (λ m. map (numbered key) (enumerate_from n (take m (f ∷ files)))) (sym later)
    ∙ ap (λ rest. numbered key (n, f) ∷ rest) (numbered_from-more key (n + 1) files i j d (omega (arith, h)) (omega (arith, e)))

pub all_numbered-more : (done : List Reference) (key : ShelfKey) (files : List PoolFile) (i j : ℕ) (d : PoolFile) → i < length files → 1 + i ≡ j
    → (done ++ all_numbered key (take i files)) ++ numbered key (j, get_or files i d) ∷ [] ≡ done ++ all_numbered key (take (i + 1) files)
all_numbered-more done key files i j d h e =
    append_assoc done (all_numbered key (take i files)) (numbered key (j, get_or files i d) ∷ [])
    ∙ ap (λ rest. done ++ rest) (sym (numbered_from-more key 1 files i j d h e))
