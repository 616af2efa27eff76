use Rattle.usage.proofs.commands.serve_with_options.Goals as goal

pub returns : goal.returns
returns c =
    let one = c.with_arg-command.ensures _ _ c.timed_command-command.ensures c.moments.ensures.rule c.moments.ensures.local in
    let two = c.with_arg-command-2.ensures _ _ one c.log.ensures.rule c.log.ensures.local in
    let three = c.with_arg-command-3.ensures _ _ two c.export.ensures.rule c.export.ensures.local in
    c.with_arg.ensures _ _ three c.signed.ensures.rule c.signed.ensures.local
