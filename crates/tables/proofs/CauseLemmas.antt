-- Why a call fails, and why a sequence of calls does.
use Rattle.std.proofs.Common.{◌≡◌, ◌⊎◌, ◌≤◌, ℕ, List, [], length, inl, inr, Bool, true, false, IsSome, Result, Ok, Err, refl, sym, ap, subst, ◌∙◌, arith}
use Rattle.std.specs.Prelude.{◌≢◌}
use Rattle.sqlite_trees.specs.declared.error.StoreError.{StoreError}
use Rattle.sqlite_trees.specs.declared.error.StoreError.TheVariants.{OutOfMemory, Io, Corrupt, Full, Broken, Unstorable}
use Rattle.sqlite_trees.specs.Tree.{Trees}
use Rattle.sqlite_resolve.specs.declared.compiled.Compiled.{Compiled}
use Rattle.sqlite_resolve.specs.declared.error.CompileError.{CompileError}
use Rattle.sqlite.specs.declared.error.Error.{Error}
use Rattle.sqlite.specs.Given.{IsPlain}
use Rattle.sqlite.specs.Listing.{understood}
use Rattle.sqlite.specs.State as sqlite
use Rattle.sqlite.specs.State.{State, HasCleanDisk, HasCause, Survives, IsNotRun, IsNoStatement, store_error}
use Rattle.tables.specs.Causes.{IsCaused, MayFail}

-- the text is one statement, without parameters
abbrev pub IsAlone : List ℕ → Result Compiled CompileError → Type 0
IsAlone sql (Ok c) = (length sql ≤ c.tail) × (c.names ≡ [])
IsAlone sql (Err e) = ⊥

module _ (old new : State) where
  has_cause : (e : Error) (cause : StoreError) → e ≡ store_error cause → HasCause old new ⊥ cause → IsCaused old new e
  has_cause e OutOfMemory is h = inl is
  has_cause e Io is h = inr (inl h)
  has_cause e Corrupt is h = inr (inl h)
  has_cause e Full is h = inr (inl h)
  has_cause e Broken is h = inr (inr (inl h))
  has_cause e Unstorable is h = absurd h

  pub store_failed : (e : Error) → sqlite.Fails old new ⊥ e → IsCaused old new e
  store_failed e h = has_cause e h.0 h.1 h.2

  one_statement : {A B C : Type 0} (sql : List ℕ) (c : Compiled) → (length sql ≤ c.tail) × (c.names ≡ []) → c.formats ≡ [] → ((¬ (length sql ≤ c.tail)) × A) ⊎ (((0 ≢ length c.names) × B) ⊎ ((c.formats ≢ []) × C)) → ⊥
  one_statement sql c alone timeless (inl many) = many.0 alone.0
  one_statement sql c alone timeless (inr (inl wrong)) = wrong.0 (ap length (sym alone.1))
  one_statement sql c alone timeless (inr (inr timed)) = timed.0 timeless

  is_statement : (sql : List ℕ) (e : Error) → IsAlone sql (understood old.now.schema sql) → IsPlain (understood old.now.schema sql) → IsNoStatement old sql [] e → ⊥
  is_statement sql e alone plain (inl h) = subst (IsAlone sql) h.1 alone
  is_statement sql e alone plain (inr h) = one_statement sql h.0 (subst (IsAlone sql) h.1 alone) (subst IsPlain h.1 plain).1 h.2

  pub not_run : (sql : List ℕ) (e : Error) → IsAlone sql (understood old.now.schema sql) → IsPlain (understood old.now.schema sql) → IsNotRun old new sql [] e → IsCaused old new e
  unfolding IsNotRun
  not_run sql e alone plain (inl h) = absurd (is_statement sql e alone plain h.0)
  not_run sql e alone plain (inr h) = store_failed e h

-- the causes of a failure after other calls
module _ (a b c : State) {P : Trees → Type 0} (first : Survives a b P) (clean : HasCleanDisk b) where
  shut_before : (up : Bool) → a.is_open ≡ up → b.is_open ≡ false → MayFail a b
  shut_before false is shut = inr (inl is)
  shut_before true is shut = elim (first.closes clean is) [ inl up ↦ absurd (let e : true ≡ false = sym up ∙ shut in cc) | inr more ↦ inl more ]

  grown : b.faults ≤ c.faults → MayFail a b → MayFail a c
  grown up (inl more) = inl (omega (arith, up, more))
  grown up (inr other) = inr other

  pub later : b.faults ≤ c.faults → MayFail b c → MayFail a c
  later up (inl more) = inl (omega (arith, first.counts, more))
  later up (inr (inl shut)) = grown up (shut_before a.is_open refl shut)
  later up (inr (inr limited)) = inr (inr (subst IsSome first.limit limited))

  pub caused_later : (e : Error) → b.faults ≤ c.faults → IsCaused b c e → IsCaused a c e
  caused_later e up (inl memory) = inl memory
  caused_later e up (inr fails) = inr (later up fails)
