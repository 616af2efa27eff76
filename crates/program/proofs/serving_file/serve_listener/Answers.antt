use Rattle.desk.specs.Connections.{IsClientsWithin}
use Rattle.desk.proofs.ConnectionLemmas.{no_turn}
use Rattle.program.proofs.serving_file.serve_listener.Goals as goal

pub returns-in-Err-clause-served : goal.returns-in-Err-clause-served
returns-in-Err-clause-served g c = no_turn g.K.Keeper c.args.left (IsClientsWithin c.args.desk.now.rules c.args.moments.now.greatest c.args.moments.now.greatest) c.args.archive.now.keeper
