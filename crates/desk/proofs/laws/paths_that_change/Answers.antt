use Rattle.desk.specs.Paths.{to_incoming, to_copy, to_promote, to_remove, to_run, to_clean}
use Rattle.desk.proofs.RouteLemmas.{place_asks}
use Rattle.desk.proofs.laws.paths_that_change.Goals as goal

pub returns-clause-incoming : goal.returns-clause-incoming
returns-clause-incoming c key name h = place_asks key (to_incoming name) h

pub returns-clause-run : goal.returns-clause-run
returns-clause-run c key = place_asks key to_run tt

pub returns-clause-copy : goal.returns-clause-copy
returns-clause-copy c key from to source h1 h2 h3 = place_asks key (to_copy from to source) (h1, h2, h3)

pub returns-clause-promote : goal.returns-clause-promote
returns-clause-promote c key from to h1 h2 = place_asks key (to_promote from to) (h1, h2)

pub returns-clause-remove : goal.returns-clause-remove
returns-clause-remove c key suite name h1 h2 = place_asks key (to_remove suite name) (h1, h2)

pub returns-clause-clean : goal.returns-clause-clean
returns-clause-clean c key = place_asks key to_clean tt
