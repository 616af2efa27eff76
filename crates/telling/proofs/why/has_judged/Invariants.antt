use Rattle.std.proofs.Common.{◌≡◌, false, take}
use Rattle.std.specs.List.{list_any}
use Rattle.telling.specs.Why.{is_named}
use Rattle.telling.proofs.why.has_judged.Given as goal

-- none so far has the name
abbrev pub invariant-loop-judgement : goal.invariant-loop-judgement
invariant-loop-judgement l = list_any (is_named l.name) (take l.judgement-index l.judged) ≡ false
