use Rattle.std.proofs.Common.{◌≡◌, drop, fold}
use Rattle.tables_audit.specs.Uploads.{last_of, later}
use Rattle.tables_audit.proofs.uploads.judged.last_place.Given as goal

abbrev pub invariant-loop-upload : goal.invariant-loop-upload
invariant-loop-upload l = fold (λ last x. later last x.1.place) l.last (drop l.upload-index l.uploads) ≡ last_of l.uploads
