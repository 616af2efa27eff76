use Rattle.usage.proofs.commands.serve_command.Goals as goal

pub returns : goal.returns
returns c =
    let one = c.with_arg-command.ensures _ _ c.serve_with_refuse_origin-command.ensures c.word.ensures.rule c.word.ensures.local in
    c.with_arg.ensures _ _ one c.count.ensures.rule c.count.ensures.local
