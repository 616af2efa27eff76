use Rattle.usage.proofs.commands.list_command.Goals as goal

pub returns : goal.returns
returns c =
    let one = c.with_arg-command.ensures _ _ c.db_command-command.ensures c.json.ensures.rule c.json.ensures.local in
    c.with_arg.ensures _ _ one c.optional_word.ensures.rule c.optional_word.ensures.local
