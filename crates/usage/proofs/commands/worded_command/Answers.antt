use Rattle.usage.proofs.commands.worded_command.Goals as goal

pub returns : goal.returns
returns c = c.with_arg.ensures _ _ c.timed_command.ensures c.word.ensures.rule c.word.ensures.local
