use Rattle.lists.proofs.LineLemmas.{as_command, as_printed, command_back, good_line, line_good, read_back}
use Rattle.lists.proofs.laws.lines_of_commands.Goals as goal

pub returns-clause-text : goal.returns-clause-text
returns-clause-text c text m = (as_printed text m, λ h. read_back text m h.0 h.1)

pub returns-clause-line : goal.returns-clause-line
returns-clause-line c line m = (as_command line m, command_back line m)

pub returns-clause-good : goal.returns-clause-good
returns-clause-good c line = (good_line line, line_good line)
