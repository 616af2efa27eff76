-- What the pool of some files holds at a path.
use Rattle.std.proofs.Common.{◌≡◌, ℕ, Bool, true, false, cond, List, [], ◌∷◌, Some, refl, sym, ap, ◌∙◌, subst, inl, inr}
use Rattle.std.specs.Prelude.{Contains}
use Rattle.std.specs.Cmp.{tied_itself}
use Rattle.std.specs.FinMap.{find, get, get-from_entries}
use Rattle.std.specs.Ordering.{eq_by_cmp, is_eq}
use Rattle.std.specs.declared.cmp.Ordering.{Ordering}
use Rattle.std.specs.declared.cmp.Ordering.TheVariants.{Less, Equal, Greater}
use Rattle.std.proofs.lemmas.Option.{same_Some}
use Rattle.sums.proofs.Members.{here, there, which, no_member}
use Rattle.sums.specs.declared.print.Print.{Print}
use Rattle.suites.specs.Keys.{text_order}
use Rattle.suites.specs.KeyLemmas.{text_order_total, text_order-IsAntisymmetric}
use Rattle.suites.specs.Pool.{AreAgreed, pool_of}

pub tie : (o : Ordering) → is_eq o ≡ true → o ≡ Equal
tie Less h = cc
tie Equal h = refl
tie Greater h = cc

pub same_path : (p q : List ℕ) → eq_by_cmp text_order p q ≡ true → p ≡ q
same_path p q h = text_order-IsAntisymmetric p q (tie (text_order p q) h)

pub path_same : (p q : List ℕ) → p ≡ q → eq_by_cmp text_order p q ≡ true
path_same p q e = ap (λ r. eq_by_cmp text_order p r) (sym e) ∙ ap is_eq (tied_itself text_order_total p)

found_at : (path : List ℕ) (e : List ℕ × Print) (rest : List (List ℕ × Print)) (p : Print) (b : Bool) → eq_by_cmp text_order path e.0 ≡ b
    → cond b (Some e.1) (find text_order path rest) ≡ Some p → (find text_order path rest ≡ Some p → Contains rest (path, p)) → Contains (e ∷ rest) (path, p)
found_at path e rest p true t h more =
    let same : e ≡ (path, p) = λ i. (sym (same_path path e.0 t) i, same_Some e.1 p h i) in
    subst (λ f. Contains (e ∷ rest) f) same (here e rest)
found_at path e rest p false t h more = there e (path, p) rest (more h)

-- what is found at a path is a file there
pub find-Contains : (path : List ℕ) (files : List (List ℕ × Print)) (p : Print) → find text_order path files ≡ Some p → Contains files (path, p)
find-Contains path [] p h = cc
find-Contains path (e ∷ rest) p h = found_at path e rest p (eq_by_cmp text_order path e.0) refl h (find-Contains path rest p)

abbrev Found : List ℕ → List (List ℕ × Print) → Type 0
Found path files = (q : Print) × (find text_order path files ≡ Some q)

found_first : (path : List ℕ) (e : List ℕ × Print) (rest : List (List ℕ × Print)) → eq_by_cmp text_order path e.0 ≡ true → Found path (e ∷ rest)
found_first path e rest t = (e.1, ap (λ b. cond b (Some e.1) (find text_order path rest)) t)

found_either : (path : List ℕ) (e : List ℕ × Print) (rest : List (List ℕ × Print)) (b : Bool) → eq_by_cmp text_order path e.0 ≡ b → Found path rest → Found path (e ∷ rest)
found_either path e rest true t f = found_first path e rest t
found_either path e rest false t f = (f.0, ap (λ b. cond b (Some e.1) (find text_order path rest)) t ∙ f.1)

Contains-find : (path : List ℕ) (files : List (List ℕ × Print)) (p : Print) → Contains files (path, p) → Found path files
Contains-find path [] p h = no_member (path, p) h
Contains-find path (e ∷ rest) p h = elim (which e (path, p) rest h) [
  | inl same ↦ found_first path e rest (path_same path e.0 (sym (ap (λ f. f.0) same)))
  | inr more ↦ found_either path e rest (eq_by_cmp text_order path e.0) refl (Contains-find path rest p more)
]

-- the pool of files that agree holds each of them
pub get-pool_of : (path : List ℕ) (files : List (List ℕ × Print)) (p : Print) → AreAgreed files → Contains files (path, p) → get (pool_of files) path ≡ Some p
get-pool_of path files p agreed h =
    let found = Contains-find path files p h in
    get-from_entries text_order_total files path ∙ found.1 ∙ ap Some (agreed path found.0 p (find-Contains path files found.0 found.1) h)
