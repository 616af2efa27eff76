-- Each file that an index names is there.
use Rattle.std.proofs.Common.{◌≡◌, ℕ, ◌⊎◌, List, Option, Some, None, inl, inr, sym, ap, subst, ◌∙◌}
use Rattle.std.specs.Prelude.{Contains}
use Rattle.sums.specs.declared.print.Print.{Print}
use Rattle.suites.specs.declared.item.PoolFile.{PoolFile}
use Rattle.tree.specs.Tree.{Tree, AreShown, is_among, made}
use Rattle.tree.specs.declared.steps.Step.{Step}
use Rattle.tree.specs.declared.steps.Step.TheVariants.{Write, Show, Remove}
use Rattle.tree.proofs.Walks.{IsPlace, IsShow, IsRemoval, among, at_path, at_suite}

-- What is asked of the contents at a path for a file that is named: that they are its own, or that there are some.
module _ (R : Option Print → PoolFile → Type 0) (own : (f : PoolFile) → R (Some f.print) f) (files : List PoolFile) (new : ℕ → List PoolFile) (first : Tree) where
  abbrev Held : Tree → Type 0
  Held t = (suite : ℕ) (f : PoolFile) → Contains (first.named suite) f → R (t.pool f.path) f

  abbrev pub Sound : Tree → Type 0
  Sound t = ((suite : ℕ) (f : PoolFile) → Contains (t.named suite) f → R (t.pool f.path) f) × Held t × ((suite : ℕ) (f : PoolFile) → Contains (t.named suite) f → Contains (first.named suite) f ⊎ Contains files f)

  -- before suites show anything new
  pub record Placing (t : Tree) : Type 0 where
    pub names : (suite : ℕ) (f : PoolFile) → Contains (t.named suite) f → Contains (first.named suite) f
    pub held : Held t

  pub placing_keeps : ((suite : ℕ) (f g : PoolFile) → Contains (first.named suite) f → Contains files g → f.path ≡ g.path → R (Some g.print) f)
      → (t : Tree) (s : Step) → IsPlace files s → Placing t → Placing (made new t s)
  placing_keeps over t (Write g) h i = record {
    names = i.names;
    held = λ suite f named. at_path (λ o. R o f) f.path g.path (Some g.print) (t.pool f.path) (λ same. over suite f g named h same) (λ other. i.held suite f named);
  }
  placing_keeps over t (Show s) h i = absurd h
  placing_keeps over t (Remove p) h i = absurd h

  -- once all files of the pool are there
  pub record Settled (t : Tree) : Type 0 where
    pub names : (suite : ℕ) (f : PoolFile) → Contains (t.named suite) f → Contains (first.named suite) f ⊎ Contains files f
    pub held : Held t
    pub files_there : (f : PoolFile) → Contains files f → t.pool f.path ≡ Some f.print

  pub show_keeps : AreShown files new → (t : Tree) (s : Step) → IsShow s → Settled t → Settled (made new t s)
  show_keeps shown t (Write g) h i = absurd h
  show_keeps shown t (Show n) h i = record {
    names = λ suite f. at_suite (λ list. Contains list f → Contains (first.named suite) f ⊎ Contains files f) suite n (new suite) (t.named suite) (λ same k. inr (shown suite f k)) (λ other k. i.names suite f k);
    held = i.held;
    files_there = i.files_there;
  }
  show_keeps shown t (Remove p) h i = absurd h

  pub removal_keeps : (left : List (List ℕ)) → ((suite : ℕ) (f : PoolFile) → Contains (first.named suite) f → Contains left f.path → ⊥)
      → (t : Tree) (s : Step) → IsRemoval files left s → Settled t → Settled (made new t s)
  removal_keeps left unnamed t (Write g) h i = absurd h
  removal_keeps left unnamed t (Show n) h i = absurd h
  removal_keeps left unnamed t (Remove p) h i = record {
    names = i.names;
    held = λ suite f named. at_path (λ o. R o f) f.path p None (t.pool f.path) (λ same. absurd (unnamed suite f named (subst (λ q. Contains left q) (sym same) h.0))) (λ other. i.held suite f named);
    files_there = λ f k. at_path (λ o. o ≡ Some f.print) f.path p None (t.pool f.path) (λ same. cc (sym (among files f k) ∙ ap (is_among files) same ∙ h.1)) (λ other. i.files_there f k);
  }

  pub placing_sound : (t : Tree) → Placing t → Sound t
  placing_sound t i = ((λ suite f named. i.held suite f (i.names suite f named)), i.held, λ suite f named. inl (i.names suite f named))

  pub settled_sound : (t : Tree) → Settled t → Sound t
  settled_sound t i = (
    (λ suite f named. elim (i.names suite f named) [
      | inl was ↦ i.held suite f was
      | inr is ↦ subst (λ o. R o f) (sym (i.files_there f is)) (own f)
    ]),
    i.held,
    i.names,
  )
