use Rattle.usage.proofs.commands.show_command.Goals as goal

pub returns : goal.returns
returns c = c.with_arg.ensures _ _ c.db_command-command.ensures c.word.ensures.rule c.word.ensures.local
