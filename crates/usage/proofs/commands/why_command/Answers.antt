use Rattle.usage.proofs.commands.why_command.Goals as goal

pub returns : goal.returns
returns c =
    let one = c.with_arg-command.ensures _ _ c.db_command-command.ensures c.optional_at.ensures.rule c.optional_at.ensures.local in
    let two = c.with_arg-command-2.ensures _ _ one c.json.ensures.rule c.json.ensures.local in
    c.with_arg.ensures _ _ two c.optional_word.ensures.rule c.optional_word.ensures.local
