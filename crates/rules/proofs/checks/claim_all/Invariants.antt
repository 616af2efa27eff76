use Rattle.std.proofs.Common.{◌≡◌, ◌||◌, ℕ, List, take}
use Rattle.records.specs.Records.{is_among}
use Rattle.rules.specs.Claimed.{holds}
use Rattle.records.proofs.Different.{texts}
use Rattle.rules.proofs.checks.claim_all.Given as goal

-- The set has what it had, and the names before this one.
abbrev pub invariant-loop-name : goal.invariant-loop-name
invariant-loop-name l = (q : List ℕ) → holds l.claimed q ≡ (holds l.fn.claimed q || is_among (texts (take l.name-index l.names)) q)
