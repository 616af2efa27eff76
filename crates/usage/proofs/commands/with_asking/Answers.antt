use Rattle.usage.proofs.commands.with_asking.Goals as goal

pub returns : goal.returns
returns c app whole =
    let one = c.with-command.ensures _ _ whole c.show_command.ensures in
    let two = c.with-command-2.ensures _ _ one c.list_command.ensures in
    let three = c.with-command-3.ensures _ _ two c.waiting_command.ensures in
    let four = c.with-command-4.ensures _ _ three c.verdicts_command.ensures in
    let five = c.with-command-5.ensures _ _ four c.why_command.ensures in
    let six = c.with-command-6.ensures _ _ five c.configuration_command.ensures in
    let seven = c.with-command-7.ensures _ _ six c.status_command.ensures in
    let eight = c.with-command-8.ensures _ _ seven c.export_command.ensures in
    c.with.ensures _ _ eight c.serve_command.ensures
