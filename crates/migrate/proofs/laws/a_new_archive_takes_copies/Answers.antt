use Rattle.migrate.proofs.FoundedRows.{founded_bare}
use Rattle.migrate.proofs.laws.a_new_archive_takes_copies.Goals as goal

pub returns : goal.returns
returns c = founded_bare
