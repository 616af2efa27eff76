use Rattle.usage.proofs.commands.with_none.Goals as goal

pub returns : goal.returns
returns c app whole =
    let one = c.with-command.ensures _ _ whole c.try_command.ensures in
    let two = c.with-command-2.ensures _ _ one c.compare_command.ensures in
    c.with.ensures _ _ two c.check_command.ensures
