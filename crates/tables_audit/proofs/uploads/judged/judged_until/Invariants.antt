use Rattle.std.proofs.Common.{◌≡◌, Some, map}
use Rattle.std.specs.List.{range_with_len}
use Rattle.tables_audit.specs.Uploads.{judged_at}
use Rattle.tables_audit.proofs.uploads.judged.judged_until.Given as goal

abbrev pub invariant-loop-before : goal.invariant-loop-before
invariant-loop-before l = map Some l.judged.items ≡ map (judged_at l.uploads) (range_with_len 1 l.before)
