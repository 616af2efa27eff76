use Rattle.tables_meaning.proofs.ConfiguredRows.{reconfigures}
use Rattle.tables_meaning.proofs.laws.an_archive_under_another_configuration.Goals as goal

pub returns : goal.returns
returns c = reconfigures
