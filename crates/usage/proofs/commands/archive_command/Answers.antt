use Rattle.usage.proofs.commands.archive_command.Goals as goal

pub returns : goal.returns
returns c =
    let one = c.with_none-command.ensures _ c.archive.ensures in
    let two = c.with_changing-command.ensures _ one in
    c.with_asking.ensures _ two
