use Rattle.migrate.proofs.AlikeSuites.{alike_length, alike_moved, alike_stays}
use Rattle.migrate.proofs.laws.an_alike_configuration_keeps_what_is_shown.Goals as goal

pub returns-clause-length : goal.returns-clause-length
returns-clause-length c = alike_length

pub returns-clause-stays : goal.returns-clause-stays
returns-clause-stays c = alike_stays

pub returns-clause-same : goal.returns-clause-same
returns-clause-same c = alike_moved
