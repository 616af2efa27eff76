use Rattle.usage.proofs.commands.put_command.Goals as goal

pub returns : goal.returns
returns c = c.with_arg.ensures _ _ c.timed_command-command.ensures c.paths.ensures.rule c.paths.ensures.local
