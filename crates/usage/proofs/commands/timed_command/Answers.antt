use Rattle.usage.proofs.commands.timed_command.Goals as goal

pub returns : goal.returns
returns c = c.with_arg.ensures _ _ c.db_command.ensures c.at.ensures.rule c.at.ensures.local
