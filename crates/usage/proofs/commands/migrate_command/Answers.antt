use Rattle.usage.proofs.commands.migrate_command.Goals as goal

pub returns : goal.returns
returns c =
    let one = c.with_arg-command.ensures _ _ c.bare_command-command.ensures c.from.ensures.rule c.from.ensures.local in
    let two = c.with_arg-command-2.ensures _ _ one c.db.ensures.rule c.db.ensures.local in
    let three = c.with_arg-command-3.ensures _ _ two c.at.ensures.rule c.at.ensures.local in
    c.with_arg.ensures _ _ three c.word.ensures.rule c.word.ensures.local
