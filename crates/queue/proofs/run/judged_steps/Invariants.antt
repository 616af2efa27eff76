use Rattle.std.proofs.Common.{◌≡◌, take}
use Rattle.suites.specs.Told.{AreTold}
use Rattle.history.specs.Judging.{AreJudged, after_uploads}
use Rattle.queue.proofs.run.judged_steps.Given as goal

abbrev pub invariant-loop-upload : goal.invariant-loop-upload
invariant-loop-upload l =
    record {
      judged : AreJudged l.config l.initial.shelves (take l.upload-index l.uploads) l.steps.items;
      shelves : l.shelves ≡ after_uploads l.config l.initial.shelves (take l.upload-index l.uploads);
      told : AreTold l.config.suites l.initial.shelves → AreTold l.config.suites (after_uploads l.config l.initial.shelves (take l.upload-index l.uploads));
    }
