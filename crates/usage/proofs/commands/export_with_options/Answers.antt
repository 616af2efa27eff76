use Rattle.usage.proofs.commands.export_with_options.Goals as goal

pub returns : goal.returns
returns c =
    let one = c.with_arg-command.ensures _ _ c.db_command-command.ensures c.optional_at.ensures.rule c.optional_at.ensures.local in
    let two = c.with_arg-command-2.ensures _ _ one c.signed.ensures.rule c.signed.ensures.local in
    let three = c.with_arg-command-3.ensures _ _ two c.unsigned.ensures.rule c.unsigned.ensures.local in
    c.with_arg.ensures _ _ three c.by_hash.ensures.rule c.by_hash.ensures.local
