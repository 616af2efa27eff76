use Rattle.desk.specs.Paths.{to_dists, to_pool, to_queue, to_verdicts}
use Rattle.desk.proofs.RouteLemmas.{place_asks}
use Rattle.desk.proofs.laws.paths_that_ask.Goals as goal

pub returns-clause-waiting : goal.returns-clause-waiting
returns-clause-waiting c key = place_asks key to_queue tt

pub returns-clause-verdicts : goal.returns-clause-verdicts
returns-clause-verdicts c key = place_asks key to_verdicts tt

pub returns-clause-dists : goal.returns-clause-dists
returns-clause-dists c key rest h = place_asks key (to_dists rest) h

pub returns-clause-pool : goal.returns-clause-pool
returns-clause-pool c key rest h = place_asks key (to_pool rest) h
