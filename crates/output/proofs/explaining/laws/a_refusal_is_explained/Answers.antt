use Rattle.output.proofs.NamedLemmas.{refusal_explained}
use Rattle.output.proofs.explaining.laws.a_refusal_is_explained.Goals as goal

pub returns : goal.returns
returns c = refusal_explained
