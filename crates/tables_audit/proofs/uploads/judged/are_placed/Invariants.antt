use Rattle.std.proofs.Common.{◌↔◌, All, drop}
use Rattle.tables.specs.Rows.{rows_of}
use Rattle.tables_audit.specs.Uploads.{IsPlacedWell}
use Rattle.tables_audit.proofs.uploads.judged.are_placed.Given as goal

abbrev pub invariant-loop-upload : goal.invariant-loop-upload
invariant-loop-upload l = All IsPlacedWell (rows_of l.uploads) ↔ All IsPlacedWell (rows_of (drop l.upload-index l.uploads))
