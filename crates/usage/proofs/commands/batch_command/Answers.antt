use Rattle.usage.proofs.commands.batch_command.Goals as goal

pub returns : goal.returns
returns c =
    let one = c.with_arg-command.ensures _ _ c.timed_command-command.ensures c.strict.ensures.rule c.strict.ensures.local in
    c.with_arg.ensures _ _ one c.word.ensures.rule c.word.ensures.local
