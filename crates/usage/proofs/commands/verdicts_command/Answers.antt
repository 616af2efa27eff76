use Rattle.usage.proofs.commands.verdicts_command.Goals as goal

pub returns : goal.returns
returns c = c.with_arg.ensures _ _ c.db_command-command.ensures c.json.ensures.rule c.json.ensures.local
