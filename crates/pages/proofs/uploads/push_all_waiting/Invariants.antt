use Rattle.std.proofs.Common.{◌≡◌, ◌++◌, take, string_bytes}
use Rattle.std.specs.List.{flat_map}
use Rattle.pages.specs.UploadsPage.{waiting_row}
use Rattle.pages.proofs.uploads.push_all_waiting.Given as goal

abbrev pub invariant-loop-upload : goal.invariant-loop-upload
invariant-loop-upload l = string_bytes l.out ≡ string_bytes l.fn.out ++ flat_map (waiting_row l.site) (take l.upload-index l.waiting)
