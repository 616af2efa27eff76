use Rattle.usage.proofs.commands.serve_with_key.Goals as goal

pub returns : goal.returns
returns c = c.with_arg.ensures _ _ c.serve_with_by_hash-command.ensures c.key.ensures.rule c.key.ensures.local
