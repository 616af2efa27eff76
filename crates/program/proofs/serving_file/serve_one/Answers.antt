use Rattle.desk.specs.Connections.{IsClientsWithin}
use Rattle.desk.proofs.ConnectionLemmas.{turn_and_read}
use Rattle.program.proofs.serving_file.serve_one.Goals as goal
use Rattle.program.proofs.serving_file.serve_one.Goals.{then-takes_change, else-takes_change}

pub returns-clause-served : goal.returns-clause-served
returns-clause-served g c =
    elim c.if-takes_change.branch [
      | then-takes_change w ↦ rw w.archive-is
          (turn_and_read g.K.Keeper 1 (IsClientsWithin c.args.desk.now.rules c.args.moments.now.greatest c.serve_listener.new.moments.greatest) c.args.archive.now.keeper c.serve_listener.new.archive.keeper
          w.export_to.new.archive.keeper c.serve_listener.ensures.served w.export_to.ensures.reads)
      | else-takes_change w ↦ rw w.archive-is c.serve_listener.ensures.served
    ]
