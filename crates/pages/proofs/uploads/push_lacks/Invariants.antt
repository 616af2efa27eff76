use Rattle.std.proofs.Common.{◌≡◌, ◌++◌, take, string_bytes}
use Rattle.std.specs.List.{flat_map}
use Rattle.pages.specs.UploadsPage.{lack_text}
use Rattle.pages.proofs.uploads.push_lacks.Given as goal

abbrev pub invariant-loop-lack : goal.invariant-loop-lack
invariant-loop-lack l = string_bytes l.out ≡ string_bytes l.fn.out ++ flat_map lack_text (take l.lack-index l.lacks)
