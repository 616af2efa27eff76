use Rattle.std.proofs.Common.{◌≡◌, ◌≤◌, ℕ, ◌==◌, true, List, [], ◌∷◌, length, vec_len, inl, inr, refl, sym, ap, ◌∙◌, arith}
use Rattle.std.specs.Prelude.{map, string_bytes}
use Rattle.std.proofs.lemmas.Bool.Decides.{nat_tests}
use Rattle.std.proofs.lemmas.Result.{err_from_is_err_and}
use Rattle.book.specs.Book.{Book, judgements, latest}
use Rattle.history.specs.Answers.{report_line}
use Rattle.history.specs.Histories.{QueueRun}
use Rattle.history.specs.declared.fault.Fault.TheVariants.{Moment}
use Rattle.history.proofs.Amended.{left_past}
use Rattle.history.proofs.Kept.{same_by, same_past, untouched}
use Rattle.book.proofs.ReadLemmas.{reads_more}
use Rattle.history.proofs.StepAnswers.{keeper_step, keepers_own, memory_own, memory_step, refused_step}
use Rattle.history.proofs.RunAnswers.{free_run, idle_step, late_run, planned_run, ran_left, ran_step}
use Rattle.queue.proofs.archive.Archive.run.Goals as goal

pub returns-then-moment-gt-LATEST-clause-step : goal.returns-then-moment-gt-LATEST-clause-step
returns-then-moment-gt-LATEST-clause-step g c h kept faithful clean =
    refused_step g.K.Keeper.may_fail h (QueueRun c.args.moment) Moment _ _ _ _ kept (untouched _ _) (late_run g.K.Keeper.may_fail h c.args.moment c.if-moment-gt-LATEST.true)

pub returns-in_err-uploads-clause-step : goal.returns-in_err-uploads-clause-step
returns-in_err-uploads-clause-step g c h kept faithful clean =
    let p = err_from_is_err_and c.from_residual.result c.from_residual.ensures.1 in
    rw p.1 (keeper_step g.K.Keeper.may_fail h (QueueRun c.args.moment) c.in_err-uploads.field-0.0 p.0 _ _ _ _ p.2 kept
    (same_by c.in_err-uploads.ensures.reads.lasts clean c.in_err-uploads.ensures.reads.same) c.in_err-uploads.ensures.cause
    (free_run h c.args.moment c.if-moment-gt-LATEST.false))

-- no item, as the test says
no_items : {X : Type 0} (n : ℕ) (xs : List X) → n ≡ length xs → (n == 0) ≡ true → xs ≡ []
no_items n [] l e = refl
no_items n (x ∷ xs) l e = absurd (grind (arith, nat_tests))

pub returns-then-is_empty-clause-step : goal.returns-then-is_empty-clause-step
returns-then-is_empty-clause-step g c h kept faithful clean =
    let up = c.in_ok-uploads.ensures.served clean in
    idle_step g.K.Keeper.may_fail h c.args.moment (g.K.Keeper.book c.args.self.now.keeper) c.in_ok-uploads.uploads.items
    (kept.stands (c.in_ok-uploads.ensures.reads.lasts.was_open clean up)) faithful
    c.if-moment-gt-LATEST.false
    (no_items (vec_len c.in_ok-uploads.uploads) c.in_ok-uploads.uploads.items c.in_ok-uploads.uploads.ok.0 (sym c.is_empty.ensures ∙ c.if-is_empty.true))
    (c.in_ok-uploads.ensures.signs clean)
    _ (g.K.Keeper.book c.complete_uploads.new.self) _
    (c.in_ok-uploads.ensures.reads.same clean up)
    (ap (map string_bytes) c.new.ensures.items)

pub returns-in_err-shelves-clause-step : goal.returns-in_err-shelves-clause-step
returns-in_err-shelves-clause-step g c h kept faithful clean =
    let p = err_from_is_err_and c.from_residual-in_err-shelves.result c.from_residual-in_err-shelves.ensures.1 in
    let listed = same_by c.in_ok-uploads.ensures.reads.lasts (c.in_err-shelves.ensures.reads.lasts.clean clean) c.in_ok-uploads.ensures.reads.same in
    rw p.1 (keeper_step g.K.Keeper.may_fail h (QueueRun c.args.moment) c.in_err-shelves.field-0.0 p.0 _ _ _ _ p.2 kept
    (same_past listed (same_by c.in_err-shelves.ensures.reads.lasts clean c.in_err-shelves.ensures.reads.same)) c.in_err-shelves.ensures.cause
    (free_run h c.args.moment c.if-moment-gt-LATEST.false))

pub returns-in_err-steps-clause-step : goal.returns-in_err-steps-clause-step
returns-in_err-steps-clause-step g c h kept faithful clean =
    let p = err_from_is_err_and c.from_residual-in_err-steps.result c.from_residual-in_err-steps.ensures.1 in
    let listed = same_by c.in_ok-uploads.ensures.reads.lasts (c.in_ok-shelves.ensures.reads.lasts.clean clean) c.in_ok-uploads.ensures.reads.same in
    rw p.1 (memory_step g.K.Keeper.may_fail h (QueueRun c.args.moment) p.0 _ _ _ _ p.2 kept
    (same_past listed (same_by c.in_ok-shelves.ensures.reads.lasts clean c.in_ok-shelves.ensures.reads.same)))

pub returns-in_err-lines-clause-step : goal.returns-in_err-lines-clause-step
returns-in_err-lines-clause-step g c h kept faithful clean =
    let p = err_from_is_err_and c.from_residual-in_err-lines.result c.from_residual-in_err-lines.ensures.1 in
    let listed = same_by c.in_ok-uploads.ensures.reads.lasts (c.in_ok-shelves.ensures.reads.lasts.clean clean) c.in_ok-uploads.ensures.reads.same in
    rw p.1 (memory_step g.K.Keeper.may_fail h (QueueRun c.args.moment) p.0 _ _ _ _ p.2 kept
    (same_past listed (same_by c.in_ok-shelves.ensures.reads.lasts clean c.in_ok-shelves.ensures.reads.same)))

pub amend-requires-clause-planned : goal.amend-requires-clause-planned
amend-requires-clause-planned g c clean_then up_then =
    let clean_first = c.in_ok-shelves.ensures.reads.lasts.clean clean_then in
    let up_first = c.in_ok-shelves.ensures.reads.lasts.was_open clean_then up_then in
    let same = c.in_ok-shelves.ensures.reads.same clean_then up_then in
    planned_run c.args.moment (g.K.Keeper.book c.args.self.now.keeper) (g.K.Keeper.book c.shelves.new.self) c.config.result.now c.in_ok-shelves.shelves c.judged_steps.new.shelves
    c.in_ok-uploads.uploads.items c.deref.result.now c.in_ok-steps.steps.items c.from_vec.result
    (same ∙ c.in_ok-uploads.ensures.reads.same clean_first up_first)
    c.config.ensures
    (c.in_ok-shelves.ensures.shelves clean_then ∙ sym (ap (λ (b : Book). b.shown) same))
    c.deref.ensures.value
    c.from_vec.ensures
    (c.in_ok-uploads.ensures.signs clean_first)
    c.in_ok-steps.ensures.steps
    c.in_ok-steps.ensures.told
    c.in_ok-steps.ensures.shelves

pub returns-in_err-amend-clause-step : goal.returns-in_err-amend-clause-step
returns-in_err-amend-clause-step g c h kept faithful clean =
    let p = err_from_is_err_and c.from_residual-in_err-amend.result c.from_residual-in_err-amend.ensures.1 in
    let read = same_past (same_by c.in_ok-uploads.ensures.reads.lasts (c.in_ok-shelves.ensures.reads.lasts.clean (c.in_err-amend.ensures.lasts.clean clean)) c.in_ok-uploads.ensures.reads.same) (same_by c.in_ok-shelves.ensures.reads.lasts (c.in_err-amend.ensures.lasts.clean clean) c.in_ok-shelves.ensures.reads.same) in
    rw p.1 (keeper_step g.K.Keeper.may_fail h (QueueRun c.args.moment) c.in_err-amend.field-0.0 p.0 _ _ _ _ p.2 kept
    (same_past read (same_by c.in_err-amend.ensures.lasts clean c.in_err-amend.ensures.err)) c.in_err-amend.ensures.cause
    (free_run h c.args.moment c.if-moment-gt-LATEST.false))

pub returns-clause-step : goal.returns-clause-step
returns-clause-step g c h kept faithful clean =
    let up = c.in_ok-amend.ensures.served clean in
    let clean_then = c.in_ok-amend.ensures.lasts.clean clean in
    let up_then = c.in_ok-amend.ensures.lasts.was_open clean up in
    let clean_first = c.in_ok-shelves.ensures.reads.lasts.clean clean_then in
    let up_first = c.in_ok-shelves.ensures.reads.lasts.was_open clean_then up_then in
    let same = c.in_ok-shelves.ensures.reads.same clean_then up_then in
    ran_step g.K.Keeper.may_fail h c.args.moment (g.K.Keeper.book c.args.self.now.keeper) (g.K.Keeper.book c.shelves.new.self)
    c.config.result.now c.in_ok-shelves.shelves
    c.in_ok-uploads.uploads.items c.deref.result.now c.in_ok-steps.steps.items c.from_vec.result
    (kept.stands (c.in_ok-uploads.ensures.reads.lasts.was_open clean_first up_first)) faithful
    c.if-moment-gt-LATEST.false
    (same ∙ c.in_ok-uploads.ensures.reads.same clean_first up_first)
    c.config.ensures
    (c.in_ok-shelves.ensures.shelves clean_then ∙ sym (ap (λ (b : Book). b.shown) same))
    c.deref.ensures.value
    c.from_vec.ensures
    (c.in_ok-uploads.ensures.uploads clean_first)
    c.in_ok-steps.ensures.sound
    c.in_ok-steps.ensures.steps
    _ (g.K.Keeper.book c.amend.new.self.keeper) _ (c.in_ok-amend.ensures.ok clean)
    (c.in_ok-lines.ensures ∙ ap (λ steps. map report_line (judgements steps)) c.deref-2.ensures.value)

pub returns-then-moment-gt-LATEST-clause-refused : goal.returns-then-moment-gt-LATEST-clause-refused
returns-then-moment-gt-LATEST-clause-refused g c = inl c.if-moment-gt-LATEST.true

pub returns-in_err-uploads-clause-refused : goal.returns-in_err-uploads-clause-refused
returns-in_err-uploads-clause-refused g c =
    let p = err_from_is_err_and c.from_residual.result c.from_residual.ensures.1 in
    rw p.1 (inr (keepers_own g.K.Keeper.may_fail (c.args.moment ≤ latest) c.in_err-uploads.field-0.0 p.0 p.2 c.in_err-uploads.ensures.cause c.if-moment-gt-LATEST.false))

pub returns-in_err-shelves-clause-refused : goal.returns-in_err-shelves-clause-refused
returns-in_err-shelves-clause-refused g c =
    let p = err_from_is_err_and c.from_residual-in_err-shelves.result c.from_residual-in_err-shelves.ensures.1 in
    rw p.1 (inr (keepers_own g.K.Keeper.may_fail (c.args.moment ≤ latest) c.in_err-shelves.field-0.0 p.0 p.2 c.in_err-shelves.ensures.cause c.if-moment-gt-LATEST.false))

pub returns-in_err-steps-clause-refused : goal.returns-in_err-steps-clause-refused
returns-in_err-steps-clause-refused g c =
    let p = err_from_is_err_and c.from_residual-in_err-steps.result c.from_residual-in_err-steps.ensures.1 in
    rw p.1 (inr (memory_own g.K.Keeper.may_fail (c.args.moment ≤ latest) p.0 p.2))

pub returns-in_err-lines-clause-refused : goal.returns-in_err-lines-clause-refused
returns-in_err-lines-clause-refused g c =
    let p = err_from_is_err_and c.from_residual-in_err-lines.result c.from_residual-in_err-lines.ensures.1 in
    rw p.1 (inr (memory_own g.K.Keeper.may_fail (c.args.moment ≤ latest) p.0 p.2))

pub returns-in_err-amend-clause-refused : goal.returns-in_err-amend-clause-refused
returns-in_err-amend-clause-refused g c =
    let p = err_from_is_err_and c.from_residual-in_err-amend.result c.from_residual-in_err-amend.ensures.1 in
    rw p.1 (inr (keepers_own g.K.Keeper.may_fail (c.args.moment ≤ latest) c.in_err-amend.field-0.0 p.0 p.2 c.in_err-amend.ensures.cause c.if-moment-gt-LATEST.false))

pub returns-in_err-amend-clause-err : goal.returns-in_err-amend-clause-err
returns-in_err-amend-clause-err g c =
    let p = err_from_is_err_and c.from_residual-in_err-amend.result c.from_residual-in_err-amend.ensures.1 in
    let reads = (reads_more c.in_ok-uploads.ensures.reads c.in_ok-shelves.ensures.reads) in
    let lasts = c.in_err-amend.ensures.lasts in
    rw p.1 (λ clean up. c.in_err-amend.ensures.err clean up ∙ reads.same (lasts.clean clean) (lasts.was_open clean up))

pub returns-then-moment-gt-LATEST-clause-crash : goal.returns-then-moment-gt-LATEST-clause-crash
returns-then-moment-gt-LATEST-clause-crash g c h kept faithful clean left may = inl may

pub returns-in_err-uploads-clause-crash : goal.returns-in_err-uploads-clause-crash
returns-in_err-uploads-clause-crash g c h kept faithful clean left may = inl (c.in_err-uploads.ensures.reads.crash clean left may)

pub returns-then-is_empty-clause-crash : goal.returns-then-is_empty-clause-crash
returns-then-is_empty-clause-crash g c h kept faithful clean left may = inl (c.in_ok-uploads.ensures.reads.crash clean left may)

pub returns-in_err-shelves-clause-crash : goal.returns-in_err-shelves-clause-crash
returns-in_err-shelves-clause-crash g c h kept faithful clean left may =
    inl (c.in_ok-uploads.ensures.reads.crash (c.in_err-shelves.ensures.reads.lasts.clean clean) left (c.in_err-shelves.ensures.reads.crash clean left may))

pub returns-in_err-steps-clause-crash : goal.returns-in_err-steps-clause-crash
returns-in_err-steps-clause-crash g c h kept faithful clean left may =
    inl (c.in_ok-uploads.ensures.reads.crash (c.in_ok-shelves.ensures.reads.lasts.clean clean) left (c.in_ok-shelves.ensures.reads.crash clean left may))

pub returns-in_err-lines-clause-crash : goal.returns-in_err-lines-clause-crash
returns-in_err-lines-clause-crash g c h kept faithful clean left may =
    inl (c.in_ok-uploads.ensures.reads.crash (c.in_ok-shelves.ensures.reads.lasts.clean clean) left (c.in_ok-shelves.ensures.reads.crash clean left may))

pub returns-in_err-amend-clause-crash : goal.returns-in_err-amend-clause-crash
returns-in_err-amend-clause-crash g c h kept faithful clean left may =
    left_past (reads_more c.in_ok-uploads.ensures.reads c.in_ok-shelves.ensures.reads) c.in_err-amend.ensures.lasts _ c.in_err-amend.ensures.crash clean left may _ (λ clean_then up_then made.
    let clean_first = c.in_ok-shelves.ensures.reads.lasts.clean clean_then in
    let up_first = c.in_ok-shelves.ensures.reads.lasts.was_open clean_then up_then in
    let same = c.in_ok-shelves.ensures.reads.same clean_then up_then in
    ran_left g.K.Keeper.may_fail h c.args.moment (g.K.Keeper.book c.args.self.now.keeper) (g.K.Keeper.book c.shelves.new.self)
    c.config.result.now c.in_ok-shelves.shelves
    c.in_ok-uploads.uploads.items c.deref.result.now c.in_ok-steps.steps.items c.from_vec.result
    (kept.stands (c.in_ok-uploads.ensures.reads.lasts.was_open clean_first up_first)) faithful
    c.if-moment-gt-LATEST.false
    (same ∙ c.in_ok-uploads.ensures.reads.same clean_first up_first)
    c.config.ensures
    (c.in_ok-shelves.ensures.shelves clean_then ∙ sym (ap (λ (b : Book). b.shown) same))
    c.deref.ensures.value
    c.from_vec.ensures
    (c.in_ok-uploads.ensures.uploads clean_first)
    c.in_ok-steps.ensures.sound
    c.in_ok-steps.ensures.steps
    left made)

pub returns-clause-crash : goal.returns-clause-crash
returns-clause-crash g c h kept faithful clean left may =
    left_past (reads_more c.in_ok-uploads.ensures.reads c.in_ok-shelves.ensures.reads) c.in_ok-amend.ensures.lasts _ c.in_ok-amend.ensures.crash clean left may _ (λ clean_then up_then made.
    let clean_first = c.in_ok-shelves.ensures.reads.lasts.clean clean_then in
    let up_first = c.in_ok-shelves.ensures.reads.lasts.was_open clean_then up_then in
    let same = c.in_ok-shelves.ensures.reads.same clean_then up_then in
    ran_left g.K.Keeper.may_fail h c.args.moment (g.K.Keeper.book c.args.self.now.keeper) (g.K.Keeper.book c.shelves.new.self)
    c.config.result.now c.in_ok-shelves.shelves
    c.in_ok-uploads.uploads.items c.deref.result.now c.in_ok-steps.steps.items c.from_vec.result
    (kept.stands (c.in_ok-uploads.ensures.reads.lasts.was_open clean_first up_first)) faithful
    c.if-moment-gt-LATEST.false
    (same ∙ c.in_ok-uploads.ensures.reads.same clean_first up_first)
    c.config.ensures
    (c.in_ok-shelves.ensures.shelves clean_then ∙ sym (ap (λ (b : Book). b.shown) same))
    c.deref.ensures.value
    c.from_vec.ensures
    (c.in_ok-uploads.ensures.uploads clean_first)
    c.in_ok-steps.ensures.sound
    c.in_ok-steps.ensures.steps
    left made)
