use Rattle.keep_tables.proofs.KeptBook.{keeps_book}
use Rattle.keep_tables.proofs.laws.a_keeper_is_its_tables.Goals as goal

pub returns-clause-keeps : goal.returns-clause-keeps
returns-clause-keeps g c k clean up = keeps_book k clean up

pub returns-clause-leaves : goal.returns-clause-leaves
returns-clause-leaves g c k trees left may keeps = (trees, may, keeps)
