use Rattle.std.proofs.Common.{◌≡◌, ℕ, List, take}
use Rattle.records.specs.Records.{is_among}
use Rattle.rules.specs.Claimed.{holds}
use Rattle.rules.proofs.Claims.{all_names, again_from}
use Rattle.rules.proofs.checks.two_claim_a_name.Given as goal

-- The set has the names of the suites before this one, and those from here on decide.
abbrev pub invariant-loop-paragraph : goal.invariant-loop-paragraph
invariant-loop-paragraph l = record {
  claimed : (q : List ℕ) → holds l.claimed q ≡ is_among (all_names (take l.paragraph-index l.paragraphs)) q;
  again : again_from l.paragraphs l.paragraph-index ≡ again_from l.paragraphs 0;
}
