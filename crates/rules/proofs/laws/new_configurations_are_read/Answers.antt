use Rattle.rules.proofs.Configs.{new_is_kept, faulty_new}
use Rattle.rules.proofs.laws.new_configurations_are_read.Goals as goal

pub returns-clause-kept : goal.returns-clause-kept
returns-clause-kept c = new_is_kept

pub returns-clause-refused : goal.returns-clause-refused
returns-clause-refused c = faulty_new
