use Rattle.std.proofs.Common.{ap}
use Rattle.book.specs.Groups.{group_in}
use Rattle.book.proofs.GroupLemmas.{taken_apart}
use Rattle.book.proofs.groups.take_group.Goals as goal

pub returns-in-Some-clause-group : goal.returns-in-Some-clause-group
returns-in-Some-clause-group g c = ap group_in c.in-Some.ensures.value

pub returns-in-Some-clause-others : goal.returns-in-Some-clause-others
returns-in-Some-clause-others g c q other = taken_apart c.args.groups.now c.remove.new.self c.args.name.now c.in-Some.ensures.updates q other

pub returns-in-None-clause-others : goal.returns-in-None-clause-others
returns-in-None-clause-others g c q other = taken_apart c.args.groups.now c.remove.new.self c.args.name.now c.in-None.ensures.updates q other
