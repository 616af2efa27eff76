use Rattle.std.proofs.Common.{All, take}
use Rattle.tables_meaning.specs.Kept.{IsSigned}
use Rattle.tables_audit.proofs.signed.are_signed.Given as goal

-- the judged uploads so far may have been delivered
abbrev pub invariant-loop-judgement : goal.invariant-loop-judgement
invariant-loop-judgement l = All (λ j. IsSigned j.name j.print) (take l.judgement-index l.judged)
