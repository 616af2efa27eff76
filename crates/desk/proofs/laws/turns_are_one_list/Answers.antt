use Rattle.desk.proofs.ConnectionLemmas.{served_joined, served_none}
use Rattle.desk.proofs.laws.turns_are_one_list.Goals as goal

pub returns-clause-turns : goal.returns-clause-turns
returns-clause-turns g c before mid after first others lasts one two = served_joined g.K.Keeper before mid after first others lasts one two

pub returns-clause-between : goal.returns-clause-between
returns-clause-between g c before after reads = served_none g.K.Keeper before after reads
