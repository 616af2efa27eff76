use Rattle.std.proofs.Common.{ap, ◌∙◌}
use Rattle.book.specs.Groups.{group_in}
use Rattle.book.proofs.groups.group_of.Goals as goal

pub returns-in-Some : goal.returns-in-Some
returns-in-Some g c = c.as_slice.ensures.value ∙ ap group_in c.in-Some.ensures.value

pub returns-in-None : goal.returns-in-None
returns-in-None g c = ap group_in c.in-None.ensures.value
