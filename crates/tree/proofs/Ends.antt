-- What is there once the steps of a kind are made.
use Rattle.std.proofs.Common.{◌≡◌, ℕ, ◌⊎◌, List, [], ◌∷◌, map, Some, None, inl, inr, refl, sym, ap}
use Rattle.std.specs.Prelude.{Contains}
use Rattle.sums.proofs.Members.{here, there, which, no_member}
use Rattle.suites.specs.declared.item.PoolFile.{PoolFile}
use Rattle.tree.specs.Tree.{Tree, left_by, made}
use Rattle.tree.specs.declared.steps.Step.TheVariants.{Write, Show, Remove}
use Rattle.tree.proofs.Walks.{at_path, at_suite}

-- at one path the same contents
abbrev pub AreAgreed : List PoolFile → Type 0
AreAgreed files = (f g : PoolFile) → Contains files f → Contains files g → f.path ≡ g.path → f.print ≡ g.print

module _ (new : ℕ → List PoolFile) where
  -- After writes of files of the pool, each of these files is there that was written or was there.
  pub placed_all : (files : List PoolFile) → AreAgreed files → (written : List PoolFile) → ((f : PoolFile) → Contains written f → Contains files f) → (t : Tree)
      → (f : PoolFile) → Contains files f → Contains written f ⊎ (t.pool f.path ≡ Some f.print) → (left_by new t (map Write written)).pool f.path ≡ Some f.print
  placed_all files agreed [] of_pool t f h w = elim w [
    | inl k ↦ no_member f k
    | inr e ↦ e
  ]
  placed_all files agreed (g ∷ gs) of_pool t f h w =
      placed_all files agreed gs (λ x k. of_pool x (there g x gs k)) (made new t (Write g)) f h
      (at_path (λ o. Contains gs f ⊎ (o ≡ Some f.print)) f.path g.path (Some g.print) (t.pool f.path)
      (λ same. inr (ap Some (sym (agreed f g h (of_pool g (here g gs)) same))))
      (λ other. elim w [
        | inl k ↦ elim (which g f gs k) [
          | inl e ↦ absurd (other (ap (λ x. x.path) (sym e)))
          | inr r ↦ inl r
        ]
        | inr e ↦ inr e
      ]))

  -- After the steps by which suites show their new indices, each of them shows its new index.
  pub shown_all : (suites : List ℕ) (t : Tree) (suite : ℕ) → Contains suites suite ⊎ (t.named suite ≡ new suite) → (left_by new t (map Show suites)).named suite ≡ new suite
  shown_all [] t suite w = elim w [
    | inl k ↦ no_member suite k
    | inr e ↦ e
  ]
  shown_all (n ∷ ns) t suite w =
      shown_all ns (made new t (Show n)) suite
      (at_suite (λ list. Contains ns suite ⊎ (list ≡ new suite)) suite n (new suite) (t.named suite)
      (λ same. inr refl)
      (λ other. elim w [
        | inl k ↦ elim (which n suite ns k) [
          | inl e ↦ absurd (other (sym e))
          | inr r ↦ inl r
        ]
        | inr e ↦ inr e
      ]))

  -- After removals, each path that was removed has nothing.
  pub removed_all : (paths : List (List ℕ)) (t : Tree) (path : List ℕ) → Contains paths path ⊎ (t.pool path ≡ None) → (left_by new t (map Remove paths)).pool path ≡ None
  removed_all [] t path w = elim w [
    | inl k ↦ no_member path k
    | inr e ↦ e
  ]
  removed_all (p ∷ ps) t path w =
      removed_all ps (made new t (Remove p)) path
      (at_path (λ o. Contains ps path ⊎ (o ≡ None)) path p None (t.pool path)
      (λ same. inr refl)
      (λ other. elim w [
        | inl k ↦ elim (which p path ps k) [
          | inl e ↦ absurd (other (sym e))
          | inr r ↦ inl r
        ]
        | inr e ↦ inr e
      ]))
