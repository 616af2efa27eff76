use Rattle.history.proofs.ConfiguredLemmas.{configured_files, configured_goes_on}
use Rattle.history.proofs.laws.a_configured_book_opens_its_history.Goals as goal

pub returns-clause-files : goal.returns-clause-files
returns-clause-files c = configured_files

pub returns-clause-goes_on : goal.returns-clause-goes_on
returns-clause-goes_on c = configured_goes_on
