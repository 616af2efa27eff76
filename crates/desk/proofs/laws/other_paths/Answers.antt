use Rattle.std.proofs.Common.{ap, ◌∙◌}
use Rattle.desk.specs.Want.{at_question}
use Rattle.desk.proofs.QuestionLemmas.{other_question}
use Rattle.desk.proofs.RouteLemmas.{other_path}
use Rattle.desk.proofs.laws.other_paths.Goals as goal

pub returns : goal.returns
returns c key path small place inquiry = other_path key path small place ∙ ap at_question (other_question key path small inquiry)
