use Rattle.desk.proofs.QuestionLemmas.{question_asks}
use Rattle.desk.proofs.laws.paths_of_questions.Goals as goal

pub returns : goal.returns
returns c = question_asks
