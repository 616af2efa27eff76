use Rattle.usage.proofs.commands.export_command.Goals as goal

pub returns : goal.returns
returns c = c.with_arg.ensures _ _ c.export_with_key-command.ensures c.word.ensures.rule c.word.ensures.local
