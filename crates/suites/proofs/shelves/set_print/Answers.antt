use Rattle.std.proofs.Common.{rules, ap, Some}
use Rattle.suites.specs.Applying.{printed_as}
use Rattle.suites.specs.declared.shelves.SharedFile.{SharedFile}
use Rattle.suites.proofs.TextChanges.{text_step}
use Rattle.suites.proofs.shelves.set_print.Goals as goal

pub returns-in-Some : goal.returns-in-Some
returns-in-Some c =
    let file : SharedFile = record { print = c.args.added.now.print; references = c.in-Some.file.now.references } in
    text_step c.args.files.now (c.get_mut.follows.lender file) (Some file) c.args.added.now.path
    (printed_as c.args.added.now.print) c.as_str.result.now ((c.get_mut.follows.holds file).3 (search rules)) c.as_str.ensures
    (ap (printed_as c.args.added.now.print) c.in-Some.ensures.value)
