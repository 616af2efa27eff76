use Rattle.std.proofs.Common.{sym, ap, ◌∙◌}
use Rattle.lists.specs.Lists.{command_of}
use Rattle.lists.proofs.ListLemmas.{as_text, as_no_text}
use Rattle.lists.proofs.list.command_in.Goals as goal

pub returns-in-Ok : goal.returns-in-Ok
returns-in-Ok c = c.command_of.ensures ∙ ap command_of c.in-Ok.ensures.cases.0 ∙ sym (as_text c.args.line.now c.in-Ok.ensures.cases.1)

pub returns-in-Err : goal.returns-in-Err
returns-in-Err c = sym (as_no_text c.args.line.now c.in-Err.ensures.cases.0)
