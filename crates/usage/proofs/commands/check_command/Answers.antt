use Rattle.usage.proofs.commands.check_command.Goals as goal

pub returns : goal.returns
returns c = c.with_arg.ensures _ _ c.bare_command-command.ensures c.word.ensures.rule c.word.ensures.local
