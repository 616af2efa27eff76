use Rattle.std.proofs.Common.{sym, true≢false, ◌∙◌}
use Rattle.std.proofs.lemmas.Result.{IfOk-weaker}
use Rattle.tables_audit.proofs.as_recorded.stands_told.Goals as goal

pub returns-then-not-is_kept_by : goal.returns-then-not-is_kept_by
returns-then-not-is_kept_by c = (λ yes. absurd (true≢false (sym yes)), λ h. absurd (true≢false (sym h.kept ∙ sym c.is_kept_by.ensures ∙ c.if-not-is_kept_by.true)))

pub returns : goal.returns
returns c = IfOk-weaker c.is_told.result _ _ (λ b both. (λ yes. record { told = both.0 yes; kept = sym c.is_kept_by.ensures ∙ c.if-not-is_kept_by.false }, λ h. both.1 h.told)) c.is_told.ensures
