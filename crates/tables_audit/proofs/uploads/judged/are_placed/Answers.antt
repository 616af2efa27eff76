use Rattle.std.proofs.Common.{arith}
use Rattle.std.proofs.lemmas.Bool.Decides.{when_true, when_false}
use Rattle.tables_audit.specs.Uploads.{IsPlacedWell}
use Rattle.tables_audit.proofs.UploadsLists.{all_fails, all_step}
use Rattle.tables_audit.proofs.uploads.judged.are_placed.Goals as goal

pub returns-then-not-is_placed_well : goal.returns-then-not-is_placed_well
returns-then-not-is_placed_well c =
    all_fails c.args.uploads.now c.loop-upload.upload-index c.loop-upload-item.result (omega arith) c.loop-upload-item.is IsPlacedWell
    (when_false (IsPlacedWell c.loop-upload-item.result.1) (IsPlacedWell c.loop-upload-item.result.1 → ⊥) (grind arith) c.is_placed_well.ensures)
    c.loop-upload.invariant

pub loop-upload-preserved : goal.loop-upload-preserved
loop-upload-preserved c =
    all_step c.args.uploads.now c.loop-upload.upload-index c.loop-upload-item.result (omega arith) c.loop-upload-item.is IsPlacedWell
    (when_true (IsPlacedWell c.loop-upload-item.result.1) (IsPlacedWell c.loop-upload-item.result.1 → ⊥) (grind arith) c.is_placed_well.ensures)
    c.loop-upload.invariant
