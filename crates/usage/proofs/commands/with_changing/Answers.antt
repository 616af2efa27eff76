use Rattle.usage.proofs.commands.with_changing.Goals as goal

pub returns : goal.returns
returns c app whole =
    let one = c.with-command.ensures _ _ whole c.init_command.ensures in
    let two = c.with-command-2.ensures _ _ one c.put_command.ensures in
    let three = c.with-command-3.ensures _ _ two c.run_command.ensures in
    let four = c.with-command-4.ensures _ _ three c.copy_command.ensures in
    let five = c.with-command-5.ensures _ _ four c.promote_command.ensures in
    let six = c.with-command-6.ensures _ _ five c.remove_command.ensures in
    let seven = c.with-command-7.ensures _ _ six c.clean_command.ensures in
    let eight = c.with-command-8.ensures _ _ seven c.batch_command.ensures in
    let nine = c.with-command-9.ensures _ _ eight c.configure_command.ensures in
    c.with.ensures _ _ nine c.migrate_command.ensures
