-- How reads follow one another.
use Rattle.std.proofs.Common.{◌≡◌, inl, inr, Result, Ok, Err, IfErr, OnOk, OnErr, sym, subst, ap, ◌∙◌, arith}
use Rattle.std.proofs.lemmas.Result.{IfOk-weaker}
use Rattle.sqlite.specs.declared.error.Error.{Error}
use Rattle.sqlite.specs.State.{State, HasCleanDisk, IsUnchanged}
use Rattle.sqlite.proofs.Callers.{unchanged_then}
use Rattle.sqlite.proofs.StateLemmas.{survives_then}
use Rattle.tables.specs.Causes.{IsCaused}
use Rattle.tables.specs.Rows.{Fails, IsForeign}
use Rattle.tables.proofs.CauseLemmas.{caused_later}
use Rattle.tables.specs.Others.{IsArchiveSchema}
use Rattle.tables_read.specs.Reading.{Tells}

on_ok : {X E : Type 0} {P Q : Type 0} (r : Result X E) → (P → Q) → OnOk r P → OnOk r Q
on_ok (Ok x) f h = f h
on_ok (Err e) f h = h

on_err_then : {X E : Type 0} {P Q : Type 0} (r : Result X E) → (P → Q) → OnErr r P → OnErr r Q
on_err_then (Ok x) f h = h
on_err_then (Err e) f h = f h

if_err : {X E : Type 0} {P Q : E → Type 0} (r : Result X E) → ((e : E) → P e → Q e) → IfErr r P → IfErr r Q
if_err (Ok x) f h = h
if_err (Err e) f h = f e h

module _ (a b : State) where
  -- an error is passed on
  pub failed : {X Y : Type 0} {P : X → Type 0} {Q : Y → Type 0} (e f : Error) → f ≡ e → Tells a b (Err e) P → Tells a b (Err f) Q
  failed e f same h = record { idle = h.idle; is = λ _ _. tt; unchanged = λ _ _. tt; err = h.err; cause = λ clean is. subst (IsCaused a b) (sym same) (h.cause clean is); survives = h.survives }

  -- a success answers something else, if that follows from what was read
  pub told : {X Y : Type 0} {P : X → Type 0} {Q : Y → Type 0} (x : X) (y : Y) → Tells a b (Ok x) P → (HasCleanDisk b → IsArchiveSchema a.now.schema → IsUnchanged a b → P x → Q y) → Tells a b (Ok y) Q
  told x y h f = record { idle = h.idle; is = λ clean is. f clean is (h.unchanged clean is) (h.is clean is); unchanged = h.unchanged; err = λ _ _. tt; cause = λ _ _. tt; survives = h.survives }

module _ (a b c : State) where
  pub fails_then : IsUnchanged a b → Fails b c → Fails a c
  fails_then same (inl s) = inl (record { was_open = λ up. same.0.was_open; now_is = s.now_is ∙ same.0.now_is; committed_is = s.committed_is ∙ same.0.committed_is; mode = s.mode ∙ same.0.mode })
  fails_then same (inr r) = inr (record {
    was_open = λ up. same.0.was_open;
    undone = λ up. ((r.undone up).0 ∙ same.0.committed_is, (r.undone up).1 ∙ same.0.committed_is);
    autocommit = r.autocommit;
    unmarked = r.unmarked;
    counts = record { changes = r.counts.changes ∙ same.1.changes; last_rowid = r.counts.last_rowid ∙ same.1.last_rowid };
  })

  -- a read after one that changed nothing
  pub then_told : {X Y : Type 0} {P : X → Type 0} {Q R : Y → Type 0} (x : X) (r : Result Y Error) → Tells a b (Ok x) P → Tells b c r Q
      → (HasCleanDisk b → HasCleanDisk c → IsArchiveSchema a.now.schema → IsUnchanged a b → P x → (y : Y) → Q y → R y) → Tells a c r R
  then_told x r one two f =
      let before : HasCleanDisk c → HasCleanDisk b = λ clean. let k = two.survives.clean in omega (arith, k, clean) in
      let same : HasCleanDisk c → IsArchiveSchema a.now.schema → IsUnchanged a b = λ clean is. one.unchanged (before clean) is in
      let now : HasCleanDisk c → IsArchiveSchema a.now.schema → IsArchiveSchema b.now.schema = λ clean is. subst IsArchiveSchema (sym (ap (λ d. d.schema) (same clean is).0.now_is)) is in
      record {
        idle = λ i. two.idle (one.idle i);
        is = λ clean is. IfOk-weaker r _ _ (f (before clean) clean is (same clean is) (one.is (before clean) is)) (two.is clean (now clean is));
        unchanged = λ clean is. on_ok r (λ h. unchanged_then a b c (same clean is) h) (two.unchanged clean (now clean is));
        err = λ clean is. on_err_then r (λ h. fails_then (same clean is) h) (two.err clean (now clean is));
        cause = λ clean is. if_err r (λ e h. caused_later a b c one.survives (before clean) e two.survives.counts h) (two.cause clean (now clean is));
        survives = survives_then a b c (λ _. IsForeign a.now) (λ _. IsForeign b.now) (λ _. IsForeign a.now) (λ _ db h. h) (λ clean db h is. h (now clean is)) one.survives two.survives;
      }
