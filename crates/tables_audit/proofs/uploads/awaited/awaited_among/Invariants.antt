use Rattle.std.proofs.Common.{◌≡◌, map, take}
use Rattle.std.specs.List.{filter_map}
use Rattle.tables_audit.specs.Uploads.{awaited_view, found_awaited, printed}
use Rattle.tables_audit.proofs.uploads.awaited.awaited_among.Given as goal

abbrev pub invariant-loop-one : goal.invariant-loop-one
invariant-loop-one l = map awaited_view l.awaited.items ≡ filter_map (found_awaited l.pieces.all.now.pieces.items l.judged.all.now) (map printed (take l.one-index l.arrived))
