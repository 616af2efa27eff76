use Rattle.usage.proofs.commands.export_with_key.Goals as goal

pub returns : goal.returns
returns c = c.with_arg.ensures _ _ c.export_with_options-command.ensures c.key.ensures.rule c.key.ensures.local
