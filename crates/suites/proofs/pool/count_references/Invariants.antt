use Rattle.std.proofs.Common.{◌≡◌, ℕ, List, map, take}
use Rattle.std.specs.BTreeMap.{get_by_text}
use Rattle.suites.specs.Counts.{shared_at}
use Rattle.suites.specs.PoolChange.{referred}
use Rattle.suites.proofs.pool.count_references.Given as goal

abbrev pub invariant-loop-reference : goal.invariant-loop-reference
invariant-loop-reference l = (path : List ℕ) → get_by_text l.files path ≡ shared_at path (map referred (take l.reference-index l.references))
