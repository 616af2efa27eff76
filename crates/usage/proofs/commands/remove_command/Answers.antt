use Rattle.usage.proofs.commands.remove_command.Goals as goal

pub returns : goal.returns
returns c = c.with_arg.ensures _ _ c.worded_command-command.ensures c.word.ensures.rule c.word.ensures.local
