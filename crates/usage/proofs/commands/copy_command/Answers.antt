use Rattle.usage.proofs.commands.copy_command.Goals as goal

pub returns : goal.returns
returns c =
    let one = c.with_arg-command.ensures _ _ c.worded_command-command.ensures c.word.ensures.rule c.word.ensures.local in
    c.with_arg.ensures _ _ one c.word-2.ensures.rule c.word-2.ensures.local
