-- What a transaction leaves, once it is committed or undone.
use Rattle.std.proofs.Common.{◌≡◌, inl, inr, true, IsTrue, Result, Ok, Err, IfErr, OnErr, OnOk, refl, sym, ap, subst, ◌∙◌}
use Rattle.sqlite.specs.declared.error.Error.{Error}
use Rattle.sqlite.specs.Steps.{FailsToCommit}
use Rattle.sqlite.specs.State.{State, KeepsCommit, IsRolledBack}
use Rattle.sqlite.specs.Store.{Ghosts}
use Rattle.sqlite.specs.Held.{Held, state}
pub use Rattle.sums.proofs.Results.{on_err}
use Rattle.tables.specs.Rows.{Tables, Holds, Changes, Fails}

pub keeps_if_changed : (old new : State) (change : Tables → Tables) → Changes old new change → KeepsCommit old new
keeps_if_changed old new change h = record { was_open = λ _. h.shown.was_open; committed = λ _. h.shown.committed_is }

pub keeps_if_undone : (old new : State) → IsRolledBack old new → KeepsCommit old new
keeps_if_undone old new h = record { was_open = h.was_open; committed = λ up. (h.undone up).1 }

pub keeps_if_failed : (old new : State) → Fails old new → KeepsCommit old new
keeps_if_failed old new (inl same) = record { was_open = same.was_open; committed = λ _. same.committed_is }
keeps_if_failed old new (inr undone) = keeps_if_undone old new undone

pub keeps_then : (a b c : State) → KeepsCommit a b → KeepsCommit b c → KeepsCommit a c
keeps_then a b c p q = record { was_open = λ up. p.was_open (q.was_open up); committed = λ up. q.committed up ∙ p.committed (q.was_open up) }

pub undone : (begun mid last : State) → KeepsCommit begun mid → IsRolledBack mid last → IsTrue last.is_open → (last.now ≡ begun.committed) × (last.committed ≡ begun.committed) × IsTrue begun.is_open
undone begun mid last kept back up =
    let was = kept.committed (back.was_open up) in
    ((back.undone up).0 ∙ was, (back.undone up).1 ∙ was, kept.was_open (back.was_open up))

pub commit_failed : {X : Type 0} (begun mid last : State) (r : Result X Error) → KeepsCommit begun mid → mid.in_transaction ≡ true → IfErr r (FailsToCommit mid last) → IsTrue last.is_open
    → OnErr r ((last.now ≡ begun.committed) × (last.committed ≡ begun.committed) × IsTrue begun.is_open)
commit_failed begun mid last (Ok x) kept inside h up = tt
commit_failed begun mid last (Err e) kept inside (inl failed) up = undone begun mid last kept failed.3 up
commit_failed begun mid last (Err e) kept inside (inr late) up = absurd (let both = sym inside ∙ late.1 in cc)

pub on_ok : {X E : Type 0} {P Q : Type 0} (r : Result X E) → OnOk r P → (P → Q) → OnOk r Q
on_ok (Ok x) h f = f h
on_ok (Err e) h f = tt

pub on_either : {X E : Type 0} {P Q R : Type 0} (r : Result X E) → OnOk r P → OnErr r Q → (P → R) → (Q → R) → R
on_either (Ok x) h k f g = f h
on_either (Err e) h k f g = g k

module _ {S : Type 0} (g : Ghosts S) (old begun one two : Held S) (is : begun ≡ record old { in_transaction = true }) where
  pub inside : IsTrue begun.in_transaction
  inside = subst (λ (h : Held S). IsTrue h.in_transaction) (sym is) refl

  pub both_done : (f s : Tables → Tables) → Changes (state g begun) (state g one) f → Changes (state g one) (state g two) s → (t : Tables) → Holds (state g old).now t → Holds (state g two).now (s (f t))
  both_done f s first second t was = second.held (f t) (first.held t (subst (λ (h : Held S). Holds (state g h).now t) (sym is) was))

  pub was_committed : (state g begun).committed ≡ (state g old).committed
  was_committed = ap (λ h. (state g h).committed) is

  pub as_old : (last : Held S) → ((state g last).now ≡ (state g begun).committed) × ((state g last).committed ≡ (state g begun).committed) × IsTrue (state g begun).is_open
      → ((state g last).now ≡ (state g old).committed) × ((state g last).committed ≡ (state g old).committed) × IsTrue (state g old).is_open
  as_old last h = subst (λ b. ((state g last).now ≡ (state g b).committed) × ((state g last).committed ≡ (state g b).committed) × IsTrue (state g b).is_open) is h

  pub as_old_if_err : {X E : Type 0} (last : Held S) (r : Result X E) → OnErr r (((state g last).now ≡ (state g begun).committed) × ((state g last).committed ≡ (state g begun).committed) × IsTrue (state g begun).is_open)
      → OnErr r (((state g last).now ≡ (state g old).committed) × ((state g last).committed ≡ (state g old).committed) × IsTrue (state g old).is_open)
  as_old_if_err last (Ok x) h = tt
  as_old_if_err last (Err e) h = as_old last h

  pub as_open : IsTrue (state g begun).is_open → IsTrue (state g old).is_open
  as_open h = subst (λ b. IsTrue (state g b).is_open) is h
