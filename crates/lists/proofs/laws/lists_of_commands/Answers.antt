use Rattle.lists.proofs.GrammarLemmas.{as_list, list_back, first_bad, bad_back}
use Rattle.lists.proofs.laws.lists_of_commands.Goals as goal

pub returns-clause-read : goal.returns-clause-read
returns-clause-read c list ms = (λ h. as_list list ms h.0 h.1, list_back list ms)

pub returns-clause-refused : goal.returns-clause-refused
returns-clause-refused c list number = (first_bad list number, bad_back list number)
