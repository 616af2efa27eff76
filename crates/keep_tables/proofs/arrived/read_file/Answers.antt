use Rattle.std.proofs.Common.{ap}
use Rattle.std.specs.Option.{option_map}
use Rattle.keep_tables.specs.Arrived.{file_with}
use Rattle.keep_tables.proofs.arrived.read_file.Goals as goal

pub returns-clause-ok : goal.returns-clause-ok
returns-clause-ok g c clean t was =
    let read = c.in_ok-print.ensures.ok clean t was in
    (ap (option_map (file_with c.args.row.1)) read.0, read.1)
