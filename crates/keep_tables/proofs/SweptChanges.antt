-- What a change makes of an archive that is swept only if it needs to be.
use Rattle.std.proofs.Common.{◌≡◌, ◌<◌, ◌≤◌, ℕ, Bool, true, false, List, [], length, All, Result, Ok, Err, OnOk, IsTrue, ap, subst, ◌∙◌, arith}
use Rattle.std.specs.Prelude.{⊤}
use Rattle.std.specs.List.{list_any}
use Rattle.sqlite.specs.Effect.{Database}
use Rattle.sqlite.specs.State.{State, HasCleanDisk, Survives}
use Rattle.sqlite.specs.Tree.{Trees}
use Rattle.sqlite.proofs.StateLemmas.{survives_then, survives_weaker}
use Rattle.rules.specs.Values.{ConfigValue}
use Rattle.suites.specs.Shelves.{ShelvesValue}
use Rattle.book.specs.Book.{latest}
use Rattle.book.specs.Keeping.{IsSound}
use Rattle.book.specs.declared.change.Change.{Change}
use Rattle.book.specs.declared.change.Judgement.{Judgement}
use Rattle.tables.specs.Rows.{Tables, Holds, tables_in}
use Rattle.tables.proofs.BookLemmas.{held_tables}
use Rattle.tables_meaning.specs.Amending.{HasAllBodies}
use Rattle.tables_meaning.specs.Archives.{KeepsArchive, book_in_database}
use Rattle.tables_meaning.specs.Coming.{HasComing}
use Rattle.tables_meaning.specs.Making.{takes_file, with_change}
use Rattle.tables_meaning.specs.Transactions.{IsDone, IsUndone, MayCommit}
use Rattle.tables_meaning.proofs.TurnLemmas.{AmendsBy, KeepsComing, done_amends, done_ends, done_keeps}
use Rattle.tables_bodies.specs.Swept.{needs_sweep, with_made}
use Rattle.tables_bodies.proofs.SparedLemmas.{made_as_needed}

-- what is undone after a read leaves what was there before
pub undone_twice : (a b c : State) → IsUndone a b → IsUndone b c → IsUndone a c
undone_twice a b c one two = record { was_open = λ up. one.was_open (two.was_open up); committed = λ up. two.committed up ∙ one.committed (two.was_open up) }

-- a read that a crash leaves nothing of
pub survives_beside : {P : Trees → Type 0} (a b : State) → Survives a b (λ _. ⊥) → Survives a b P
survives_beside {P} a b h = survives_weaker a b (λ _. ⊥) P (λ clean trees none. absurd none) h

one : Result ⊤ ⊤
one = Ok tt

-- `mid` is the connection after the look that says whether a sweep is needed.
module _ (config : ConfigValue) (judged : ℕ) (change : Change) (whole sweeps : Bool) (old mid : State)
    (left : Survives old mid (λ _. ⊥)) (same : HasCleanDisk mid → IsUndone old mid) (settled : IsTrue mid.is_open → mid.now ≡ mid.committed)
    (nothing : whole ≡ true → HasCleanDisk old → IsTrue old.is_open → ∥ HasComing (tables_in old.committed) [] ∥₁)
    (told : HasCleanDisk mid → (prior : List Judgement) (shown : ShelvesValue) (dates : List ℕ) → KeepsArchive old.committed config prior shown dates
    → sweeps ≡ needs_sweep (tables_in old.committed) whole change.steps) where
  module _ (clean : HasCleanDisk mid) (new : State) (done : IsDone mid new (with_made sweeps config judged change)) where
    early : HasCleanDisk old
    early = omega (arith, left.clean, clean)

    was : mid.committed ≡ old.committed
    was = (same clean).committed done.was_open

    -- the rows become those of the change
    is_change : {prior : List Judgement} {shown : ShelvesValue} {dates : List ℕ} → KeepsArchive old.committed config prior shown dates → IsDone mid new (with_change config judged change)
    is_change {prior} {shown} {dates} keeps = record {
      was_open = done.was_open;
      is_open = done.is_open;
      held = λ t has.
          let there : tables_in old.committed ≡ t = held_tables old.committed t (subst (λ db. Holds db t) (settled done.was_open ∙ was) has) in
          let needed : with_made sweeps config judged change (tables_in old.committed) ≡ with_change config judged change (tables_in old.committed) =
          ap (λ b. with_made b config judged change (tables_in old.committed)) (told clean prior shown dates keeps)
          ∙ made_as_needed old.committed config prior shown dates keeps whole (λ yes. nothing yes early ((same clean).was_open done.was_open)) judged change in
          subst (Holds new.committed) (subst (λ u. with_made sweeps config judged change u ≡ with_change config judged change u) there needed) (done.held t has);
    }

    keeps_beside : list_any takes_file change.steps ≡ false → {prior : List Judgement} {shown : ShelvesValue} {dates : List ℕ} → KeepsArchive old.committed config prior shown dates
        → KeepsComing old.committed new.committed
    unfolding one
    keeps_beside none {prior} {shown} {dates} keeps =
        subst (λ db. KeepsArchive db config prior shown dates → KeepsComing db new.committed) was
        (done_keeps config judged change none one mid new settled (is_change keeps) prior shown dates) keeps

    module _ (small : change.moment ≤ latest) (inside : All (λ s. All (λ e. e.0.suite < length config.suites) s.plan.put) change.steps)
        (arrived : (t : Tables) → Holds mid.now t → HasAllBodies t change.steps) where
      amends_by : AmendsBy old.committed new.committed config judged change
      unfolding one
      amends_by prior shown dates keeps =
          subst (λ db. AmendsBy db new.committed config judged change) was (done_amends config judged change small inside mid new settled one (is_change keeps) arrived) prior shown dates keeps

      ends_by : list_any takes_file change.steps ≡ true → (prior : List Judgement) (shown : ShelvesValue) (dates : List ℕ) → KeepsArchive old.committed config prior shown dates → length prior ≡ judged
          → IsSound (book_in_database old.committed config prior shown dates) change → HasComing (tables_in new.committed) []
      unfolding one
      ends_by takes prior shown dates keeps =
          subst (λ db. KeepsArchive db config prior shown dates → length prior ≡ judged → IsSound (book_in_database db config prior shown dates) change → HasComing (tables_in new.committed) []) was
          (done_ends config judged change small inside mid new settled takes one (is_change keeps) arrived prior shown dates) keeps

  module _ (small : change.moment ≤ latest) (inside : All (λ s. All (λ e. e.0.suite < length config.suites) s.plan.put) change.steps) where
    pub made_amends : {X E : Type 0} (r : Result X E) (new : State) → HasCleanDisk mid → OnOk r (IsDone mid new (with_made sweeps config judged change)) → OnOk r ((t : Tables) → Holds mid.now t → HasAllBodies t change.steps)
        → OnOk r (AmendsBy old.committed new.committed config judged change)
    made_amends (Ok x) new clean done arrived = amends_by clean new done small inside arrived
    made_amends (Err e) new clean done arrived = tt

    pub made_ends : {X E : Type 0} (r : Result X E) (new : State) → HasCleanDisk mid → list_any takes_file change.steps ≡ true → OnOk r (IsDone mid new (with_made sweeps config judged change))
        → OnOk r ((t : Tables) → Holds mid.now t → HasAllBodies t change.steps)
        → OnOk r ((prior : List Judgement) (shown : ShelvesValue) (dates : List ℕ) → KeepsArchive old.committed config prior shown dates → length prior ≡ judged
        → IsSound (book_in_database old.committed config prior shown dates) change → HasComing (tables_in new.committed) [])
    made_ends (Ok x) new clean takes done arrived = ends_by clean new done small inside arrived takes
    made_ends (Err e) new clean takes done arrived = tt

    pub made_crash : (new : State) → Survives mid new (λ trees. MayCommit mid (with_made sweeps config judged change) trees × ((t : Tables) → Holds mid.now t → HasAllBodies t change.steps))
        → Survives old new (λ trees. (db : Database) × (trees ≡ db.trees) × IsTrue old.is_open × AmendsBy old.committed db config judged change)
    made_crash new may =
        survives_then old mid new _ _ _ (λ clean trees none. absurd none)
        (λ clean trees might.
        let late : HasCleanDisk mid = omega (arith, may.clean, clean) in
        let after : State = record mid { committed = might.0.0 } in
        let done : IsDone mid after (with_made sweeps config judged change) = record { was_open = might.0.2; is_open = might.0.2; held = might.0.3 } in
        (might.0.0, might.0.1, (same late).was_open might.0.2, amends_by late after done small inside might.1))
        left may

  pub made_keeps : {X E : Type 0} (r : Result X E) (new : State) → HasCleanDisk mid → list_any takes_file change.steps ≡ false → OnOk r (IsDone mid new (with_made sweeps config judged change))
      → OnOk r ((prior : List Judgement) (shown : ShelvesValue) (dates : List ℕ) → KeepsArchive old.committed config prior shown dates → KeepsComing old.committed new.committed)
  made_keeps (Ok x) new clean none done = λ prior shown dates keeps. keeps_beside clean new done none keeps
  made_keeps (Err e) new clean none done = tt

  pub made_open : {X E : Type 0} (r : Result X E) (new : State) → HasCleanDisk mid → OnOk r (IsDone mid new (with_made sweeps config judged change)) → OnOk r (IsTrue old.is_open × IsTrue new.is_open)
  made_open (Ok x) new clean done = ((same clean).was_open done.was_open, done.is_open)
  made_open (Err e) new clean done = tt
