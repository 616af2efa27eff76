use Rattle.usage.proofs.commands.run_command.Goals as goal

pub returns : goal.returns
returns c = c.with_arg.ensures _ _ c.timed_command-command.ensures c.strict.ensures.rule c.strict.ensures.local
