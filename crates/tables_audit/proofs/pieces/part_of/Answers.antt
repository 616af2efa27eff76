use Rattle.tables.specs.Pieces.{is_of}
use Rattle.tables_audit.proofs.KeyedLemmas.{rows_same}
use Rattle.tables_audit.proofs.pieces.part_of.Goals as goal

pub part_of-requires : goal.part_of-requires
part_of-requires c = c.requires

pub returns : goal.returns
returns c = rows_same (is_of c.args.id) c.part_of.result.now c.args.pieces.now c.part_of.ensures
