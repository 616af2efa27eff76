use Rattle.tables_read.proofs.StreamLemmas.{adds}
use Rattle.tables_read.proofs.answer.take_row.Goals as goal

pub returns-in_ok-push-in-Some-clause-yes : goal.returns-in_ok-push-in-Some-clause-yes
returns-in_ok-push-in-Some-clause-yes g c _ =
    adds g.T.Stored.layout c.args.row.now c.args.all.now.items c.in_ok-one.field-0 c.in-Some.one c.in-Some.is c.in_ok-one.ensures.some c.in_ok-push-in-Some.ensures.items
