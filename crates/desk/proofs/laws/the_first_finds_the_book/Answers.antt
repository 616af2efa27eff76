use Rattle.desk.proofs.ConnectionLemmas.{served_behind}
use Rattle.desk.proofs.laws.the_first_finds_the_book.Goals as goal

pub returns : goal.returns
returns g c before after visits served bodies files apart have there clean = served_behind g.K.Keeper before after visits served bodies files apart have there clean
