use Rattle.tables_audit.specs.Signs.{arrived_sign}
use Rattle.tables_audit.proofs.SignsLemmas.{signs_more}
use Rattle.tables_audit.proofs.uploads.signs.signs_of_arrived.Goals as goal

pub loop-one-preserved : goal.loop-one-preserved
loop-one-preserved c =
    signs_more arrived_sign c.loop-one.signs.items c.args.arrived.now c.loop-one.one-index c.one-item.result c.sign_of_arrived.result c.loop-one-test.true c.one-item.is c.sign_of_arrived.ensures c.in_ok-push.ensures.items c.loop-one.invariant
