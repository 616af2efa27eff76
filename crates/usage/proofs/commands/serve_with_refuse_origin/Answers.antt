use Rattle.usage.proofs.commands.serve_with_refuse_origin.Goals as goal

pub returns : goal.returns
returns c = c.with_arg.ensures _ _ c.serve_with_key-command.ensures c.refuse_origin.ensures.rule c.refuse_origin.ensures.local
