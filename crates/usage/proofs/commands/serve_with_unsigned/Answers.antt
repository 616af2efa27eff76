use Rattle.usage.proofs.commands.serve_with_unsigned.Goals as goal

pub returns : goal.returns
returns c = c.with_arg.ensures _ _ c.serve_with_options-command.ensures c.unsigned.ensures.rule c.unsigned.ensures.local
