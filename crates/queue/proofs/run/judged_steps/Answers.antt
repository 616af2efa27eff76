use Rattle.std.proofs.Common.{◌≡◌, take, ◌+◌, [], ◌∷◌, ◌++◌, sym, ap, subst, ◌∙◌}
use Rattle.std.proofs.lemmas.List.{take_more}
use Rattle.std.proofs.lemmas.Grind.{fold-append}
use Rattle.suites.specs.Plan.{after_upload}
use Rattle.suites.specs.Told.{AreTold}
use Rattle.history.specs.Judging.{AreJudged, IsJudged, after_uploads}
use Rattle.history.proofs.RunJudged.{judged-push}
use Rattle.queue.proofs.run.judged_steps.Goals as goal

pub loop-upload-preserved : goal.loop-upload-preserved
loop-upload-preserved c =
    let config = c.args.config.now in
    let before = c.args.shelves.now in
    let u = c.upload-item.result in
    let us = take c.loop-upload.upload-index c.args.uploads.now in
    let more : take (c.loop-upload.upload-index + 1) c.args.uploads.now ≡ us ++ u ∷ [] =
    take_more c.args.uploads.now c.loop-upload.upload-index u c.loop-upload-test.true ∙ ap (λ x. us ++ x ∷ []) (sym c.upload-item.is) in
    let judged : AreJudged config before (us ++ u ∷ []) (c.loop-upload.steps.items ++ c.in_ok-judged_step.field-0 ∷ []) =
    judged-push config before us c.loop-upload.steps.items u c.in_ok-judged_step.field-0 c.loop-upload.invariant.judged
    (subst (λ now. IsJudged config now u c.in_ok-judged_step.field-0) c.loop-upload.invariant.shelves c.in_ok-judged_step.ensures.step) in
    let pushed : after_uploads config before (us ++ u ∷ []) ≡ after_upload config (after_uploads config before us) u = fold-append (after_upload config) before us (u ∷ []) in
    record {
      judged = rw (more, c.in_ok-push.ensures.items) judged;
      shelves = c.in_ok-judged_step.ensures.shelves ∙ ap (λ now. after_upload config now u) c.loop-upload.invariant.shelves
          ∙ sym pushed ∙ ap (after_uploads config before) (sym more);
      told = λ told. subst (AreTold config.suites) (ap (λ now. after_upload config now u) c.loop-upload.invariant.shelves ∙ sym pushed ∙ ap (after_uploads config before) (sym more))
          (c.in_ok-judged_step.ensures.told (subst (AreTold config.suites) (sym c.loop-upload.invariant.shelves) (c.loop-upload.invariant.told told)));
    }
