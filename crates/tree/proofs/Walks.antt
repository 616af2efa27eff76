-- What holds of a tree at each moment of a list of steps.
use Rattle.std.proofs.Common.{◌≡◌, ◌≢◌, ℕ, Bool, true, false, not, cond, List, [], ◌∷◌, ◌++◌, map, filter, bytes_eq, refl, sym, ◌∙◌}
use Rattle.std.specs.Prelude.{Contains, ⊤, nat_eq}
use Rattle.std.proofs.lemmas.Bool.Decides.{Decides-eqb}
use Rattle.std.proofs.lemmas.Bool.{not-true}
use Rattle.sums.proofs.Agree.{same_bytes, bytes_same}
use Rattle.sums.proofs.Members.{here, there, any_true}
use Rattle.suites.proofs.ListMembers.{from_filter}
use Rattle.suites.specs.declared.item.PoolFile.{PoolFile}
use Rattle.tree.specs.Tree.{Tree, AtEach, is_among, kept_back, left_by, made}
use Rattle.tree.specs.declared.steps.Step.{Step}
use Rattle.tree.specs.declared.steps.Step.TheVariants.{Write, Show, Remove}

-- ---- at one path, at one suite

pub at_path : {X : Type 0} (R : X → Type 0) (p q : List ℕ) (x y : X) → (p ≡ q → R x) → (p ≢ q → R y) → R (cond (bytes_eq p q) x y)
at_path R p q x y same other = by_case (bytes_eq p q) refl
  where
    by_case : (b : Bool) → bytes_eq p q ≡ b → R (cond b x y)
    by_case true e = same (same_bytes p q e)
    by_case false e = other (λ h. cc (sym e ∙ bytes_same p q h))

pub at_suite : {X : Type 0} (R : X → Type 0) (m n : ℕ) (x y : X) → (m ≡ n → R x) → (m ≢ n → R y) → R (cond (nat_eq m n) x y)
at_suite R m n x y same other = by_case (nat_eq m n) refl
  where
    by_case : (b : Bool) → nat_eq m n ≡ b → R (cond b x y)
    by_case true e = same ((Decides-eqb m n).0 e)
    by_case false e = other (λ h. cc (sym e ∙ (Decides-eqb m n).1 h))

-- ---- walks

-- each step of the list is of this kind
abbrev pub Each : (Step → Type 0) → List Step → Type 0
Each ok [] = ⊤
Each ok (step ∷ steps) = ok step × Each ok steps

pub each_map : {X : Type 0} (ok : Step → Type 0) (f : X → Step) (xs : List X) → ((x : X) → Contains xs x → ok (f x)) → Each ok (map f xs)
each_map ok f [] h = tt
each_map ok f (x ∷ xs) h = (h x (here x xs), each_map ok f xs (λ y k. h y (there x y xs k)))

module _ (new : ℕ → List PoolFile) where
  -- what each step keeps holds at each moment, and in the end
  pub walk : (Inv P : Tree → Type 0) (ok : Step → Type 0) → ((t : Tree) (s : Step) → ok s → Inv t → Inv (made new t s)) → ((t : Tree) → Inv t → P t)
      → (steps : List Step) → Each ok steps → (t : Tree) → Inv t → AtEach new P t steps × Inv (left_by new t steps)
  walk Inv P ok keep give [] each t i = (give t i, i)
  walk Inv P ok keep give (s ∷ ss) each t i =
      let r = walk Inv P ok keep give ss each.1 (made new t s) (keep t s each.0 i) in
      ((give t i, r.0), r.1)

  pub left_by-append : (xs ys : List Step) (t : Tree) → left_by new t (xs ++ ys) ≡ left_by new (left_by new t xs) ys
  left_by-append [] ys t = refl
  left_by-append (x ∷ xs) ys t = left_by-append xs ys (made new t x)

  -- what follows from what holds at each moment holds at each moment
  pub at_each : {P Q : Tree → Type 0} → ((t : Tree) → P t → Q t) → (steps : List Step) (t : Tree) → AtEach new P t steps → AtEach new Q t steps
  at_each f [] t h = f t h
  at_each f (s ∷ ss) t h = (f t h.0, at_each f ss (made new t s) h.1)

  -- a walk after a walk
  pub join : (P : Tree → Type 0) (xs ys : List Step) (t : Tree) → AtEach new P t xs → AtEach new P (left_by new t xs) ys → AtEach new P t (xs ++ ys)
  join P [] ys t a b = b
  join P (x ∷ xs) ys t a b = (a.0, join P xs ys (made new t x) a.1 b)

-- ---- the kinds of steps

-- a file of the pool is written
abbrev pub IsPlace : List PoolFile → Step → Type 0
IsPlace files (Write f) = Contains files f
IsPlace files (Show suite) = ⊥
IsPlace files (Remove path) = ⊥

abbrev pub IsShow : Step → Type 0
IsShow (Write f) = ⊥
IsShow (Show suite) = ⊤
IsShow (Remove path) = ⊥

-- a path goes that was left, and at which no file of the pool stands
abbrev pub IsRemoval : List PoolFile → List (List ℕ) → Step → Type 0
IsRemoval files left (Write f) = ⊥
IsRemoval files left (Show suite) = ⊥
IsRemoval files left (Remove path) = Contains left path × (is_among files path ≡ false)

pub among : (files : List PoolFile) (f : PoolFile) → Contains files f → is_among files f.path ≡ true
among files f h = any_true (λ g. bytes_eq g.path f.path) files f h (bytes_same f.path f.path refl)

pub places : (files : List PoolFile) (p : PoolFile → Bool) → Each (IsPlace files) (map Write (filter p files))
places files p = each_map (IsPlace files) Write (filter p files) (λ f h. (from_filter p f files h).0)

pub shows : (suites : List ℕ) → Each IsShow (map Show suites)
shows suites = each_map IsShow Show suites (λ s h. tt)

pub removals : (files : List PoolFile) (left : List (List ℕ)) → Each (IsRemoval files left) (map Remove (kept_back files left))
removals files left = each_map (IsRemoval files left) Remove (kept_back files left)
    (λ p h. let r = from_filter (λ path. not (is_among files path)) p left h in (r.0, not-true (is_among files p) r.1))
