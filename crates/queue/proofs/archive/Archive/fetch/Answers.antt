use Rattle.std.proofs.Common.{ap, ◌∙◌}
use Rattle.std.specs.Prelude.{⊤}
use Rattle.std.specs.Option.{option_or}
use Rattle.std.proofs.lemmas.Result.{err_from_is_err_and}
use Rattle.book.specs.Book.{text_at}
use Rattle.history.specs.Histories.{Lookup}
use Rattle.history.proofs.Kept.{same_by, same_past}
use Rattle.book.proofs.ReadLemmas.{reads_more}
use Rattle.history.proofs.StepAnswers.{found_step, free_lookup, keeper_step, keepers_own}
use Rattle.queue.proofs.archive.Archive.fetch.Goals as goal

pub returns-in_err-body-clause-step : goal.returns-in_err-body-clause-step
returns-in_err-body-clause-step g c h kept faithful clean =
    let p = err_from_is_err_and c.from_residual.result c.from_residual.ensures.1 in
    rw p.1 (keeper_step g.K.Keeper.may_fail h (Lookup c.args.path.now) c.in_err-body.field-0.0 p.0 _ _ _ _ p.2 kept
    (same_by c.in_err-body.ensures.reads.lasts clean c.in_err-body.ensures.reads.same) c.in_err-body.ensures.cause (free_lookup h c.args.path.now))

pub returns-in_err-text-in-None-clause-step : goal.returns-in_err-text-in-None-clause-step
returns-in_err-text-in-None-clause-step g c h kept faithful clean =
    let p = err_from_is_err_and c.from_residual-in_err-text-in-None.result c.from_residual-in_err-text-in-None.ensures.1 in
    let filed = same_by c.in_ok-body.ensures.reads.lasts (c.in_err-text-in-None.ensures.reads.lasts.clean clean) c.in_ok-body.ensures.reads.same in
    rw p.1 (keeper_step g.K.Keeper.may_fail h (Lookup c.args.path.now) c.in_err-text-in-None.field-0.0 p.0 _ _ _ _ p.2 kept
    (same_past filed (same_by c.in_err-text-in-None.ensures.reads.lasts clean c.in_err-text-in-None.ensures.reads.same))
    c.in_err-text-in-None.ensures.cause (free_lookup h c.args.path.now))

pub returns-in-Some-clause-step : goal.returns-in-Some-clause-step
returns-in-Some-clause-step g c h kept faithful clean =
    let up = c.in_ok-body.ensures.served clean in
    let file = c.in_ok-body.ensures.file clean in
    found_step g.K.Keeper.may_fail h c.args.path.now _ _ _ _ (kept.stands (c.in_ok-body.ensures.reads.lasts.was_open clean up))
    (ap (λ f. option_or f (text_at (g.K.Keeper.book c.args.self.now.keeper) c.args.path.now)) (rw c.in-Some.is at file))
    (c.in_ok-body.ensures.reads.same clean up)

pub returns-in_ok-text-in-None-clause-step : goal.returns-in_ok-text-in-None-clause-step
returns-in_ok-text-in-None-clause-step g c h kept faithful clean =
    let up = c.in_ok-text-in-None.ensures.served clean in
    let clean_then = c.in_ok-text-in-None.ensures.reads.lasts.clean clean in
    let up_then = c.in_ok-text-in-None.ensures.reads.lasts.was_open clean up in
    let file = c.in_ok-body.ensures.file clean_then in
    let same = c.in_ok-body.ensures.reads.same clean_then up_then in
    found_step g.K.Keeper.may_fail h c.args.path.now _ _ _ _ (kept.stands (c.in_ok-body.ensures.reads.lasts.was_open clean_then up_then))
    (c.in_ok-text-in-None.ensures.text clean ∙ ap (λ b. text_at b c.args.path.now) same
    ∙ ap (λ f. option_or f (text_at (g.K.Keeper.book c.args.self.now.keeper) c.args.path.now)) (rw c.in-None.is at file))
    (c.in_ok-text-in-None.ensures.reads.same clean up ∙ same)

pub returns-in_err-body-clause-refused : goal.returns-in_err-body-clause-refused
returns-in_err-body-clause-refused g c =
    let p = err_from_is_err_and c.from_residual.result c.from_residual.ensures.1 in
    rw p.1 (keepers_own g.K.Keeper.may_fail ⊤ c.in_err-body.field-0.0 p.0 p.2 c.in_err-body.ensures.cause tt)

pub returns-in_err-text-in-None-clause-refused : goal.returns-in_err-text-in-None-clause-refused
returns-in_err-text-in-None-clause-refused g c =
    let p = err_from_is_err_and c.from_residual-in_err-text-in-None.result c.from_residual-in_err-text-in-None.ensures.1 in
    rw p.1 (keepers_own g.K.Keeper.may_fail ⊤ c.in_err-text-in-None.field-0.0 p.0 p.2 c.in_err-text-in-None.ensures.cause tt)

pub returns-in_err-body-clause-reads : goal.returns-in_err-body-clause-reads
returns-in_err-body-clause-reads g c = c.in_err-body.ensures.reads

pub returns-in_err-text-in-None-clause-reads : goal.returns-in_err-text-in-None-clause-reads
returns-in_err-text-in-None-clause-reads g c = reads_more c.in_ok-body.ensures.reads c.in_err-text-in-None.ensures.reads

pub returns-in-Some-clause-reads : goal.returns-in-Some-clause-reads
returns-in-Some-clause-reads g c = c.in_ok-body.ensures.reads

pub returns-in_ok-text-in-None-clause-reads : goal.returns-in_ok-text-in-None-clause-reads
returns-in_ok-text-in-None-clause-reads g c = reads_more c.in_ok-body.ensures.reads c.in_ok-text-in-None.ensures.reads
