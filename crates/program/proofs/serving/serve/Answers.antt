use Rattle.desk.specs.Connections.{IsClientsWithin}
use Rattle.desk.specs.Want.{no_rules}
use Rattle.desk.proofs.ConnectionLemmas.{no_turn}
use Rattle.program.proofs.serving.serve.Goals as goal

pub returns-in_err-desk : goal.returns-in_err-desk
returns-in_err-desk g c = record { served = no_turn g.K.Keeper c.args.count (IsClientsWithin no_rules c.args.moment c.args.moment) c.args.archive.now.keeper }
