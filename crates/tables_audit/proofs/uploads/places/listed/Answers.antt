use Rattle.std.proofs.Common.{map, subst}
use Rattle.std.proofs.lemmas.List.{take_all}
use Rattle.tables.specs.Rows.{Numbered}
use Rattle.tables.specs.declared.rows.UploadRow.{UploadRow}
use Rattle.tables_audit.specs.Places.{ArePlaced, placed_view}
use Rattle.tables_audit.proofs.PlacesLemmas.{none_placed, placed_more}
use Rattle.tables_audit.proofs.uploads.places.listed.Goals as goal

pub loop-upload-init : goal.loop-upload-init
loop-upload-init c = none_placed c.args.uploads.now c.new-placed.result.items c.new-placed.ensures.items

pub loop-upload-preserved : goal.loop-upload-preserved
loop-upload-preserved c =
    placed_more c.args.uploads.now c.loop-upload.upload-index c.loop-upload-item.result (map placed_view c.loop-upload.placed.items) c.loop-upload-test.true c.loop-upload-item.is c.in_ok-add.ensures c.loop-upload.invariant

pub returns : goal.returns
returns c =
    subst (λ (us : Numbered UploadRow). ArePlaced us (map placed_view c.loop-upload.placed.items)) (take_all c.loop-upload.upload-index c.args.uploads.now c.loop-upload-test.false) c.loop-upload.invariant
