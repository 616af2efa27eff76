use Rattle.usage.proofs.commands.promote_command.Goals as goal

pub returns : goal.returns
returns c =
    let one = c.with_arg-command.ensures _ _ c.worded_command-command.ensures c.word.ensures.rule c.word.ensures.local in
    c.with_arg.ensures _ _ one c.many.ensures.rule c.many.ensures.local
