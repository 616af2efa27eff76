use Rattle.history.proofs.Reopening.{goes_on}
use Rattle.history.proofs.laws.a_history_goes_on_from_its_book.Goals as goal

pub returns : goal.returns
returns c = goes_on
