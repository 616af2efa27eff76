-- A whole transaction: a begin, one call inside that makes a change, and a commit or, if that call failed, a drop.
use Rattle.std.proofs.Common.{◌≡◌, inl, inr, true, false, IsTrue, [], Result, Ok, Err, IfErr, OnErr, OnOk, refl, sym, ap, subst, ◌∙◌, arith}
use Rattle.sqlite.specs.declared.error.Error.{Error}
use Rattle.sqlite.specs.Steps.{FailsToCommit}
use Rattle.sqlite.specs.State.{State, HasCleanDisk, KeepsCommit, KeepsCounts, IsRolledBack, Shows, Survives}
use Rattle.sqlite.specs.Store.{Ghosts}
use Rattle.sqlite.specs.Held.{Held, state}
use Rattle.sqlite.proofs.StateLemmas.{survives_then}
use Rattle.sqlite.proofs.Callers.{survives_begin}
use Rattle.tables.specs.Rows.{Tables, Holds, Changes}
use Rattle.tables_meaning.specs.Transactions.{IsDone, IsUndone, MayCommit}

-- what a commit that is done says
abbrev pub IsCommitted : State → State → Type 0
IsCommitted mid last = IsTrue mid.in_transaction × Shows mid last mid.now mid.now false × KeepsCounts mid last × (last.marks ≡ [])

-- `old` is the connection before the transaction, `begun` as it begins, `mid` after the call inside, `last` after the
-- commit or the drop, and `new` at the return.
module _ {S : Type 0} (g : Ghosts S) (old begun mid last new : Held S) (is : begun ≡ record old { in_transaction = true }) (same : last ≡ new) where
  inside : IsTrue (state g begun).in_transaction
  inside = subst (λ (h : Held S). IsTrue h.in_transaction) (sym is) refl

  was_open : IsTrue (state g begun).is_open → IsTrue (state g old).is_open
  was_open up = subst (λ (h : Held S). IsTrue (state g h).is_open) is up

  was_committed : (state g begun).committed ≡ (state g old).committed
  was_committed = ap (λ (h : Held S). (state g h).committed) is

  was_held : (t : Tables) → Holds (state g old).now t → Holds (state g begun).now t
  was_held t held = subst (λ (h : Held S). Holds (state g h).now t) (sym is) held

  at_last : HasCleanDisk (state g new) → HasCleanDisk (state g last)
  at_last clean = subst (λ (h : Held S). HasCleanDisk (state g h)) (sym same) clean

  from_old : Survives (state g begun) (state g mid) (λ _. ⊥) → Survives (state g old) (state g mid) (λ _. ⊥)
  from_old within = survives_begin g old (state g mid) (λ _. ⊥) (subst (λ (h : Held S). Survives (state g h) (state g mid) (λ _. ⊥)) is within)

  -- the call inside failed
  module _ (dropped : Survives (state g mid) (state g last) (λ _. ⊥)) where
    pub undone_by_drop : (HasCleanDisk (state g mid) → IsTrue (state g begun).in_transaction → KeepsCommit (state g begun) (state g mid))
        → (HasCleanDisk (state g last) → IsRolledBack (state g mid) (state g last)) → HasCleanDisk (state g new) → IsUndone (state g old) (state g new)
    undone_by_drop keeps rolled clean =
        let late = at_last clean in
        let early : HasCleanDisk (state g mid) = omega (arith, dropped.clean, late) in
        let kept = keeps early inside in
        let back = rolled late in
        subst (λ (end : Held S). IsUndone (state g old) (state g end)) same (record {
          was_open = λ up. was_open (kept.was_open (back.was_open up));
          committed = λ up. (back.undone up).1 ∙ kept.committed (back.was_open up) ∙ was_committed;
        })

    pub survives_drop : (change : Tables → Tables) → Survives (state g begun) (state g mid) (λ _. ⊥) → Survives (state g old) (state g new) (MayCommit (state g old) change)
    survives_drop change within =
        subst (λ (end : Held S). Survives (state g old) (state g end) (MayCommit (state g old) change)) same
        (survives_then (state g old) (state g mid) (state g last) (λ _. ⊥) (λ _. ⊥) (MayCommit (state g old) change) (λ _ db none. absurd none) (λ _ db none. absurd none) (from_old within) dropped)

  -- the call inside made the change
  module _ (change : Tables → Tables) (did : HasCleanDisk (state g mid) → IsTrue (state g begun).in_transaction → Changes (state g begun) (state g mid) change)
      (commit : Survives (state g mid) (state g last) (λ db. db ≡ (state g mid).now.trees)) where
    made : HasCleanDisk (state g last) → Changes (state g begun) (state g mid) change
    made late =
        let early : HasCleanDisk (state g mid) = omega (arith, commit.clean, late) in
        did early inside

    as_done : (r : Result (Unit {0}) Error) → Changes (state g begun) (state g mid) change → OnOk r (IsCommitted (state g mid) (state g last)) → OnOk r (IsDone (state g old) (state g last) change)
    as_done (Ok x) it h = record {
      was_open = was_open it.shown.was_open;
      is_open = h.1.is_open;
      held = λ t held. subst (λ db. Holds db (change t)) (sym h.1.committed_is) (it.held t (was_held t held));
    }
    as_done (Err e) it h = tt

    as_undone : (r : Result (Unit {0}) Error) → Changes (state g begun) (state g mid) change → IfErr r (FailsToCommit (state g mid) (state g last)) → OnErr r (IsUndone (state g old) (state g last))
    as_undone (Ok x) it h = tt
    as_undone (Err e) it (inl failed) = record {
      was_open = λ up. was_open it.shown.was_open;
      committed = λ up. (failed.3.undone up).1 ∙ it.shown.committed_is ∙ was_committed;
    }
    as_undone (Err e) it (inr late) = absurd (let both = sym it.shown.mode ∙ late.1 in cc)

    -- if the commit is done
    pub done_by_commit : (r : Result (Unit {0}) Error) → (HasCleanDisk (state g last) → OnOk r (IsCommitted (state g mid) (state g last))) → HasCleanDisk (state g new)
        → OnOk r (IsDone (state g old) (state g new) change)
    done_by_commit r ok clean =
        let late = at_last clean in
        subst (λ (end : Held S). OnOk r (IsDone (state g old) (state g end) change)) same (as_done r (made late) (ok late))

    -- if the commit failed
    pub undone_by_commit : (r : Result (Unit {0}) Error) → (HasCleanDisk (state g last) → IfErr r (FailsToCommit (state g mid) (state g last))) → HasCleanDisk (state g new)
        → OnErr r (IsUndone (state g old) (state g new))
    undone_by_commit r err clean =
        let late = at_last clean in
        subst (λ (end : Held S). OnErr r (IsUndone (state g old) (state g end))) same (as_undone r (made late) (err late))

    -- a crash leaves what was committed before, or what the commit writes
    pub survives_commit : Survives (state g begun) (state g mid) (λ _. ⊥) → Survives (state g old) (state g new) (MayCommit (state g old) change)
    survives_commit within =
        subst (λ (end : Held S). Survives (state g old) (state g end) (MayCommit (state g old) change)) same
        (survives_then (state g old) (state g mid) (state g last) (λ _. ⊥) (λ db. db ≡ (state g mid).now.trees) (MayCommit (state g old) change) (λ _ db none. absurd none)
        (λ late db written.
        let it = made late in
        ((state g mid).now, written, was_open it.shown.was_open, λ t held. it.held t (was_held t held)))
        (from_old within) commit)
