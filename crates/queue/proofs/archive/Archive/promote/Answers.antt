use Rattle.std.proofs.Common.{◌≡◌, ◌<◌, true, map, length, inl, inr, sym, ap, subst, ◌∙◌}
use Rattle.std.specs.String.{string_bytes}
use Rattle.std.proofs.lemmas.Result.{err_from_is_err_and}
use Rattle.rules.specs.Values.{ConfigValue}
use Rattle.history.specs.Answers.{copy_line, is_free_copy}
use Rattle.history.specs.Commands.{copy_of, names_given}
use Rattle.history.specs.Copies.{AreSuites}
use Rattle.history.specs.Histories.{Promoting}
use Rattle.history.specs.declared.fault.Fault.TheVariants.{Moment}
use Rattle.history.proofs.Amended.{left_past}
use Rattle.history.proofs.CopyAnswers.{may_copy, named_place}
use Rattle.history.proofs.PromotionAnswers.{done_promotion, free_promotion, late_promotion, left_promotion, named_in_promotion, named_promotion, no_promotion_fault, planned_promotion, refused_promotion}
use Rattle.history.proofs.Kept.{same_by, same_past, untouched}
use Rattle.history.proofs.StepAnswers.{keeper_step, keepers_own, memory_own, memory_step}
use Rattle.queue.proofs.archive.Archive.promote.Goals as goal

pub returns-then-moment-gt-LATEST-clause-step : goal.returns-then-moment-gt-LATEST-clause-step
returns-then-moment-gt-LATEST-clause-step g c h kept faithful clean =
    refused_promotion g.K.Keeper.may_fail h c.args.from.now c.args.to.now (names_given c.args.sources.now) c.args.moment Moment _ _ _ _ kept (untouched _ _)
    (late_promotion h.opening.config c.args.from.now c.args.to.now c.args.moment c.if-moment-gt-LATEST.true)

pub returns-then-moment-gt-LATEST-clause-refused :
    goal.returns-then-moment-gt-LATEST-clause-refused
returns-then-moment-gt-LATEST-clause-refused g c =
    inl (late_promotion (g.K.Keeper.book c.args.self.now.keeper).config c.args.from.now c.args.to.now c.args.moment c.if-moment-gt-LATEST.true)

pub returns-in_err-from-clause-step : goal.returns-in_err-from-clause-step
returns-in_err-from-clause-step g c h kept faithful clean =
    let p = err_from_is_err_and c.from_residual.result c.from_residual.ensures.1 in
    rw (p.1, p.2) (refused_promotion g.K.Keeper.may_fail h c.args.from.now c.args.to.now (names_given c.args.sources.now) c.args.moment c.in_err-from.field-0.0 _ _ _ _ kept (untouched _ _)
    (named_in_promotion _ _ h c.config.result.now c.args.from.now c.args.to.now c.args.moment c.in_err-from.field-0.0
    kept c.if-moment-gt-LATEST.false c.config.ensures c.in_err-from.ensures.refused))

pub returns-in_err-from-clause-refused : goal.returns-in_err-from-clause-refused
returns-in_err-from-clause-refused g c =
    let p = err_from_is_err_and c.from_residual.result c.from_residual.ensures.1 in
    rw (p.1, p.2) (inl (named_promotion (g.K.Keeper.book c.args.self.now.keeper) c.config.result.now c.args.from.now c.args.to.now c.args.moment c.in_err-from.field-0.0
    c.if-moment-gt-LATEST.false c.config.ensures c.in_err-from.ensures.refused))

pub returns-in_err-shelves-clause-step : goal.returns-in_err-shelves-clause-step
returns-in_err-shelves-clause-step g c h kept faithful clean =
    let p = err_from_is_err_and c.from_residual-in_err-shelves.result c.from_residual-in_err-shelves.ensures.1 in
    rw p.1 (keeper_step g.K.Keeper.may_fail h (Promoting c.args.from.now c.args.to.now (names_given c.args.sources.now) c.args.moment) c.in_err-shelves.field-0.0 p.0 _ _ _ _ p.2 kept
    (same_by c.in_err-shelves.ensures.reads.lasts clean c.in_err-shelves.ensures.reads.same) c.in_err-shelves.ensures.cause
    (free_promotion h (g.K.Keeper.book c.args.self.now.keeper) c.config.result.now c.args.from.now c.args.to.now (names_given c.args.sources.now) c.args.moment c.in_ok-from.from c.in_ok-from.to
    _ kept c.config.ensures c.if-moment-gt-LATEST.false c.in_ok-from.ensures.suites))

pub returns-in_err-shelves-clause-refused : goal.returns-in_err-shelves-clause-refused
returns-in_err-shelves-clause-refused g c =
    let p = err_from_is_err_and c.from_residual-in_err-shelves.result c.from_residual-in_err-shelves.ensures.1 in
    rw p.1 (inr (keepers_own g.K.Keeper.may_fail (is_free_copy (g.K.Keeper.book c.args.self.now.keeper).config c.args.from.now c.args.to.now c.args.moment ≡ true) c.in_err-shelves.field-0.0 p.0 p.2 c.in_err-shelves.ensures.cause
    (may_copy (g.K.Keeper.book c.args.self.now.keeper) c.config.result.now c.args.from.now c.args.to.now c.args.moment c.in_ok-from.from c.in_ok-from.to
    c.config.ensures c.if-moment-gt-LATEST.false c.in_ok-from.ensures.suites)))

pub returns-in_err-sources-clause-step : goal.returns-in_err-sources-clause-step
returns-in_err-sources-clause-step g c h kept faithful clean =
    let p = err_from_is_err_and c.from_residual-in_err-sources.result c.from_residual-in_err-sources.ensures.1 in
    rw p.1 (memory_step g.K.Keeper.may_fail h (Promoting c.args.from.now c.args.to.now (names_given c.args.sources.now) c.args.moment) p.0 _ _ _ _ p.2 kept
    (same_by c.in_ok-shelves.ensures.reads.lasts clean c.in_ok-shelves.ensures.reads.same))

pub returns-in_err-sources-clause-refused : goal.returns-in_err-sources-clause-refused
returns-in_err-sources-clause-refused g c =
    let p = err_from_is_err_and c.from_residual-in_err-sources.result c.from_residual-in_err-sources.ensures.1 in
    rw p.1 (inr (memory_own g.K.Keeper.may_fail (is_free_copy (g.K.Keeper.book c.args.self.now.keeper).config c.args.from.now c.args.to.now c.args.moment ≡ true) p.0 p.2))

pub returns-in_err-groups-clause-step : goal.returns-in_err-groups-clause-step
returns-in_err-groups-clause-step g c h kept faithful clean =
    let p = err_from_is_err_and c.from_residual-in_err-groups.result c.from_residual-in_err-groups.ensures.1 in
    rw p.1 (memory_step g.K.Keeper.may_fail h (Promoting c.args.from.now c.args.to.now (names_given c.args.sources.now) c.args.moment) p.0 _ _ _ _ p.2 kept
    (same_by c.in_ok-shelves.ensures.reads.lasts clean c.in_ok-shelves.ensures.reads.same))

pub returns-in_err-groups-clause-refused : goal.returns-in_err-groups-clause-refused
returns-in_err-groups-clause-refused g c =
    let p = err_from_is_err_and c.from_residual-in_err-groups.result c.from_residual-in_err-groups.ensures.1 in
    rw p.1 (inr (memory_own g.K.Keeper.may_fail (is_free_copy (g.K.Keeper.book c.args.self.now.keeper).config c.args.from.now c.args.to.now c.args.moment ≡ true) p.0 p.2))

pub copied_steps-requires-clause-other : goal.copied_steps-requires-clause-other
copied_steps-requires-clause-other g c = c.in_ok-from.ensures.suites.other

pub copied_steps-requires-clause-groups : goal.copied_steps-requires-clause-groups
copied_steps-requires-clause-groups g c = c.in_ok-groups.ensures

pub copied_steps-requires-clause-from : goal.copied_steps-requires-clause-from
copied_steps-requires-clause-from g c =
    subst (λ (config : ConfigValue). c.in_ok-from.from < length config.suites)
    (c.config.ensures ∙ sym c.in_ok-shelves.ensures.reads.lasts.config ∙ sym c.config-2.ensures)
    (named_place c.config.result.now c.args.from.now c.in_ok-from.from c.in_ok-from.ensures.suites.from_named)

pub copied_steps-requires-clause-to : goal.copied_steps-requires-clause-to
copied_steps-requires-clause-to g c =
    subst (λ (config : ConfigValue). c.in_ok-from.to < length config.suites)
    (c.config.ensures ∙ sym c.in_ok-shelves.ensures.reads.lasts.config ∙ sym c.config-2.ensures)
    (named_place c.config.result.now c.args.to.now c.in_ok-from.to c.in_ok-from.ensures.suites.to_named)

pub returns-in_err-made-clause-step : goal.returns-in_err-made-clause-step
returns-in_err-made-clause-step g c h kept faithful clean =
    let p = err_from_is_err_and c.from_residual-in_err-made.result c.from_residual-in_err-made.ensures.1 in
    rw p.1 (memory_step g.K.Keeper.may_fail h (Promoting c.args.from.now c.args.to.now (names_given c.args.sources.now) c.args.moment) p.0 _ _ _ _ p.2 kept
    (same_by c.in_ok-shelves.ensures.reads.lasts clean c.in_ok-shelves.ensures.reads.same))

pub returns-in_err-made-clause-refused : goal.returns-in_err-made-clause-refused
returns-in_err-made-clause-refused g c =
    let p = err_from_is_err_and c.from_residual-in_err-made.result c.from_residual-in_err-made.ensures.1 in
    rw p.1 (inr (memory_own g.K.Keeper.may_fail (is_free_copy (g.K.Keeper.book c.args.self.now.keeper).config c.args.from.now c.args.to.now c.args.moment ≡ true) p.0 p.2))

pub returns-in_err-lines-clause-step : goal.returns-in_err-lines-clause-step
returns-in_err-lines-clause-step g c h kept faithful clean =
    let p = err_from_is_err_and c.from_residual-in_err-lines.result c.from_residual-in_err-lines.ensures.1 in
    rw p.1 (memory_step g.K.Keeper.may_fail h (Promoting c.args.from.now c.args.to.now (names_given c.args.sources.now) c.args.moment) p.0 _ _ _ _ p.2 kept
    (same_by c.in_ok-shelves.ensures.reads.lasts clean c.in_ok-shelves.ensures.reads.same))

pub returns-in_err-lines-clause-refused : goal.returns-in_err-lines-clause-refused
returns-in_err-lines-clause-refused g c =
    let p = err_from_is_err_and c.from_residual-in_err-lines.result c.from_residual-in_err-lines.ensures.1 in
    rw p.1 (inr (memory_own g.K.Keeper.may_fail (is_free_copy (g.K.Keeper.book c.args.self.now.keeper).config c.args.from.now c.args.to.now c.args.moment ≡ true) p.0 p.2))

pub amend-requires-clause-planned : goal.amend-requires-clause-planned
amend-requires-clause-planned g c clean up =
    planned_promotion c.args.moment (g.K.Keeper.book c.args.self.now.keeper) (g.K.Keeper.book c.shelves.new.self) c.config-2.result.now c.in_ok-shelves.shelves c.copied_steps.new.shelves c.in_ok-from.from c.in_ok-from.to
    (map string_bytes c.deref.result.now) c.in_ok-made.field-0.made.items c.from_vec.result
    (c.in_ok-shelves.ensures.reads.same clean up) c.config-2.ensures (c.in_ok-shelves.ensures.shelves clean) c.from_vec.ensures c.in_ok-made.ensures.steps c.in_ok-made.ensures.told c.in_ok-made.ensures.shelves

pub returns-in_err-amend-clause-step : goal.returns-in_err-amend-clause-step
returns-in_err-amend-clause-step g c h kept faithful clean =
    let p = err_from_is_err_and c.from_residual-in_err-amend.result c.from_residual-in_err-amend.ensures.1 in
    let read = same_by c.in_ok-shelves.ensures.reads.lasts (c.in_err-amend.ensures.lasts.clean clean) c.in_ok-shelves.ensures.reads.same in
    rw p.1 (keeper_step g.K.Keeper.may_fail h (Promoting c.args.from.now c.args.to.now (names_given c.args.sources.now) c.args.moment) c.in_err-amend.field-0.0 p.0 _ _ _ _ p.2 kept
    (same_past read (same_by c.in_err-amend.ensures.lasts clean c.in_err-amend.ensures.err)) c.in_err-amend.ensures.cause
    (free_promotion h (g.K.Keeper.book c.args.self.now.keeper) c.config.result.now c.args.from.now c.args.to.now (names_given c.args.sources.now) c.args.moment c.in_ok-from.from c.in_ok-from.to
    _ kept c.config.ensures c.if-moment-gt-LATEST.false c.in_ok-from.ensures.suites))

pub returns-in_err-amend-clause-refused : goal.returns-in_err-amend-clause-refused
returns-in_err-amend-clause-refused g c =
    let p = err_from_is_err_and c.from_residual-in_err-amend.result c.from_residual-in_err-amend.ensures.1 in
    rw p.1 (inr (keepers_own g.K.Keeper.may_fail (is_free_copy (g.K.Keeper.book c.args.self.now.keeper).config c.args.from.now c.args.to.now c.args.moment ≡ true) c.in_err-amend.field-0.0 p.0 p.2 c.in_err-amend.ensures.cause
    (may_copy (g.K.Keeper.book c.args.self.now.keeper) c.config.result.now c.args.from.now c.args.to.now c.args.moment c.in_ok-from.from c.in_ok-from.to
    c.config.ensures c.if-moment-gt-LATEST.false c.in_ok-from.ensures.suites)))

pub returns-clause-step : goal.returns-clause-step
returns-clause-step g c h kept faithful clean =
    let up = c.in_ok-amend.ensures.served clean in
    let clean_then = c.in_ok-amend.ensures.lasts.clean clean in
    let up_then = c.in_ok-amend.ensures.lasts.was_open clean up in
    done_promotion g.K.Keeper.may_fail h c.args.from.now c.args.to.now (names_given c.args.sources.now) c.args.moment c.in_ok-from.from c.in_ok-from.to
    (g.K.Keeper.book c.args.self.now.keeper) (g.K.Keeper.book c.shelves.new.self) c.config-2.result.now c.in_ok-shelves.shelves (map string_bytes c.deref.result.now) c.in_ok-made.field-0.made.items c.from_vec.result
    (kept.stands (c.in_ok-shelves.ensures.reads.lasts.was_open clean_then up_then)) faithful c.if-moment-gt-LATEST.false
    (c.in_ok-shelves.ensures.reads.same clean_then up_then) (c.in_ok-shelves.ensures.shelves clean_then) c.from_vec.ensures
    (subst (λ config. AreSuites config c.args.from.now c.args.to.now c.in_ok-from.from c.in_ok-from.to) c.config.ensures c.in_ok-from.ensures.suites)
    c.config-2.ensures
    (ap (map string_bytes) c.deref.ensures.value ∙ c.in_ok-sources.ensures)
    c.in_ok-made.ensures.sound c.in_ok-made.ensures.steps
    _ (g.K.Keeper.book c.amend.new.self.keeper) (map copy_of c.in_ok-made.field-0.copies.items) (c.in_ok-amend.ensures.ok clean) c.in_ok-made.ensures.copies

pub returns-clause-lines : goal.returns-clause-lines
returns-clause-lines g c = c.in_ok-lines.ensures ∙ ap (λ copies. map copy_line (map copy_of copies)) c.deref-2.ensures.value

pub returns-clause-done : goal.returns-clause-done
returns-clause-done g c =
    no_promotion_fault (g.K.Keeper.book c.args.self.now.keeper) c.config.result.now c.args.from.now c.args.to.now c.args.moment c.in_ok-from.from c.in_ok-from.to
    c.if-moment-gt-LATEST.false c.config.ensures c.in_ok-from.ensures.suites

pub returns-in_err-amend-clause-err : goal.returns-in_err-amend-clause-err
returns-in_err-amend-clause-err g c =
    let p = err_from_is_err_and c.from_residual-in_err-amend.result c.from_residual-in_err-amend.ensures.1 in
    let reads = c.in_ok-shelves.ensures.reads in
    let lasts = c.in_err-amend.ensures.lasts in
    rw p.1 (λ clean up. c.in_err-amend.ensures.err clean up ∙ reads.same (lasts.clean clean) (lasts.was_open clean up))

pub returns-then-moment-gt-LATEST-clause-crash : goal.returns-then-moment-gt-LATEST-clause-crash
returns-then-moment-gt-LATEST-clause-crash g c h kept faithful clean left may = inl may

pub returns-in_err-from-clause-crash : goal.returns-in_err-from-clause-crash
returns-in_err-from-clause-crash g c h kept faithful clean left may = inl may

pub returns-in_err-shelves-clause-crash : goal.returns-in_err-shelves-clause-crash
returns-in_err-shelves-clause-crash g c h kept faithful clean left may = inl (c.in_err-shelves.ensures.reads.crash clean left may)

pub returns-in_err-sources-clause-crash : goal.returns-in_err-sources-clause-crash
returns-in_err-sources-clause-crash g c h kept faithful clean left may = inl (c.in_ok-shelves.ensures.reads.crash clean left may)

pub returns-in_err-groups-clause-crash : goal.returns-in_err-groups-clause-crash
returns-in_err-groups-clause-crash g c h kept faithful clean left may = inl (c.in_ok-shelves.ensures.reads.crash clean left may)

pub returns-in_err-made-clause-crash : goal.returns-in_err-made-clause-crash
returns-in_err-made-clause-crash g c h kept faithful clean left may = inl (c.in_ok-shelves.ensures.reads.crash clean left may)

pub returns-in_err-lines-clause-crash : goal.returns-in_err-lines-clause-crash
returns-in_err-lines-clause-crash g c h kept faithful clean left may = inl (c.in_ok-shelves.ensures.reads.crash clean left may)

pub returns-in_err-amend-clause-crash : goal.returns-in_err-amend-clause-crash
returns-in_err-amend-clause-crash g c h kept faithful clean left may =
    left_past c.in_ok-shelves.ensures.reads c.in_err-amend.ensures.lasts _ c.in_err-amend.ensures.crash clean left may _ (λ clean_then up_then made.
    left_promotion g.K.Keeper.may_fail h c.args.from.now c.args.to.now (names_given c.args.sources.now) c.args.moment c.in_ok-from.from c.in_ok-from.to
    (g.K.Keeper.book c.args.self.now.keeper) (g.K.Keeper.book c.shelves.new.self) c.config-2.result.now c.in_ok-shelves.shelves (map string_bytes c.deref.result.now) c.in_ok-made.field-0.made.items c.from_vec.result
    (kept.stands (c.in_ok-shelves.ensures.reads.lasts.was_open clean_then up_then)) faithful c.if-moment-gt-LATEST.false
    (c.in_ok-shelves.ensures.reads.same clean_then up_then) (c.in_ok-shelves.ensures.shelves clean_then) c.from_vec.ensures
    (subst (λ config. AreSuites config c.args.from.now c.args.to.now c.in_ok-from.from c.in_ok-from.to) c.config.ensures c.in_ok-from.ensures.suites)
    c.config-2.ensures
    (ap (map string_bytes) c.deref.ensures.value ∙ c.in_ok-sources.ensures)
    c.in_ok-made.ensures.sound c.in_ok-made.ensures.steps
    left made)

pub returns-clause-crash : goal.returns-clause-crash
returns-clause-crash g c h kept faithful clean left may =
    left_past c.in_ok-shelves.ensures.reads c.in_ok-amend.ensures.lasts _ c.in_ok-amend.ensures.crash clean left may _ (λ clean_then up_then made.
    left_promotion g.K.Keeper.may_fail h c.args.from.now c.args.to.now (names_given c.args.sources.now) c.args.moment c.in_ok-from.from c.in_ok-from.to
    (g.K.Keeper.book c.args.self.now.keeper) (g.K.Keeper.book c.shelves.new.self) c.config-2.result.now c.in_ok-shelves.shelves (map string_bytes c.deref.result.now) c.in_ok-made.field-0.made.items c.from_vec.result
    (kept.stands (c.in_ok-shelves.ensures.reads.lasts.was_open clean_then up_then)) faithful c.if-moment-gt-LATEST.false
    (c.in_ok-shelves.ensures.reads.same clean_then up_then) (c.in_ok-shelves.ensures.shelves clean_then) c.from_vec.ensures
    (subst (λ config. AreSuites config c.args.from.now c.args.to.now c.in_ok-from.from c.in_ok-from.to) c.config.ensures c.in_ok-from.ensures.suites)
    c.config-2.ensures
    (ap (map string_bytes) c.deref.ensures.value ∙ c.in_ok-sources.ensures)
    c.in_ok-made.ensures.sound c.in_ok-made.ensures.steps
    left made)
