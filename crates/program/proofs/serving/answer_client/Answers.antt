use Rattle.desk.specs.Connections.{IsClientsWithin}
use Rattle.desk.proofs.ConnectionLemmas.{no_turn}
use Rattle.program.proofs.serving.answer_client.Goals as goal

pub returns-in_err-now : goal.returns-in_err-now
returns-in_err-now g c = record { served = no_turn g.K.Keeper 1 (IsClientsWithin c.args.visit.now.desk.now.rules c.args.visit.now.moment c.args.visit.now.moment) c.args.archive.now.keeper }
