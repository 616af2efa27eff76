use Rattle.desk.specs.Connections.{IsClientsWithin}
use Rattle.desk.proofs.ConnectionLemmas.{turn_and_read}
use Rattle.program.proofs.serving.leaves_shut.Goals as goal

pub returns : goal.returns
returns g c = record {
  served = turn_and_read g.K.Keeper 1 (IsClientsWithin c.args.visit.now.desk.now.rules c.args.visit.now.moment c.args.visit.now.moment) c.args.archive.now.keeper c.answer_client-end.new.archive.keeper c.is_shut.new.archive.keeper c.answer_client-end.ensures.served c.is_shut.ensures.reads;
}
