use Rattle.tables_read.proofs.laws.constrained_tables.Goals as goal
use Rattle.tables_read.specs.Keys.{constrained}

pub returns : goal.returns
returns c = constrained
