use Rattle.usage.proofs.commands.waiting_command.Goals as goal

pub returns : goal.returns
returns c = c.with_arg.ensures _ _ c.timed_command-command.ensures c.json.ensures.rule c.json.ensures.local
