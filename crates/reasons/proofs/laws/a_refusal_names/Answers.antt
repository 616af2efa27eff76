use Rattle.reasons.proofs.Refused.{refusal_names}
use Rattle.reasons.proofs.laws.a_refusal_names.Goals as goal

pub returns : goal.returns
returns c = refusal_names
