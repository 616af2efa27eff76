use Rattle.usage.proofs.commands.serve_with_by_hash.Goals as goal

pub returns : goal.returns
returns c = c.with_arg.ensures _ _ c.serve_with_unsigned-command.ensures c.by_hash.ensures.rule c.by_hash.ensures.local
