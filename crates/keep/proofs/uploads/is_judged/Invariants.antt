use Rattle.std.proofs.Common.{◌≡◌, drop}
use Rattle.keep.specs.Scan.{has_judgement}
use Rattle.keep.proofs.uploads.is_judged.Given as goal

abbrev pub invariant-loop-one : goal.invariant-loop-one
invariant-loop-one l =
    has_judgement l.changes.name l.changes.body (drop l.one-index l.judged) ≡ has_judgement l.changes.name l.changes.body l.judged
