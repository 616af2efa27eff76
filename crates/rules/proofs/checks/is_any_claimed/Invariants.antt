use Rattle.std.proofs.Common.{◌≡◌, drop}
use Rattle.std.specs.List.{list_any}
use Rattle.rules.specs.Claimed.{holds}
use Rattle.records.proofs.Different.{texts}
use Rattle.rules.proofs.checks.is_any_claimed.Given as goal

-- the names that have not been looked at decide
abbrev pub invariant-loop-name : goal.invariant-loop-name
invariant-loop-name l = list_any (holds l.claimed) (texts (drop l.name-index l.names)) ≡ list_any (holds l.claimed) (texts l.names)
