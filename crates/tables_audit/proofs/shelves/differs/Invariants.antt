use Rattle.std.proofs.Common.{◌≡◌, drop}
use Rattle.std.specs.List.{list_any}
use Rattle.tables_meaning.specs.Shown.{clash}
use Rattle.tables_audit.proofs.shelves.differs.Given as goal

-- what has not been looked at decides
abbrev pub invariant-loop-other : goal.invariant-loop-other
invariant-loop-other l = list_any (clash l.file) (drop l.other-index l.others) ≡ list_any (clash l.file) l.others
