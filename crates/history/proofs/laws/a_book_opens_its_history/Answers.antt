use Rattle.history.proofs.Reopening.{opens_itself}
use Rattle.history.proofs.laws.a_book_opens_its_history.Goals as goal

pub returns : goal.returns
returns c = opens_itself
