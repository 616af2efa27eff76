use Rattle.usage.proofs.commands.db_command.Goals as goal

pub returns : goal.returns
returns c = c.with_arg.ensures _ _ c.bare_command-command.ensures c.db.ensures.rule c.db.ensures.local
