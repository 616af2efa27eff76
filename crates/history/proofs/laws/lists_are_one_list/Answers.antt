use Rattle.history.proofs.Runs.{IsRun-append, does_append}
use Rattle.history.proofs.laws.lists_are_one_list.Goals as goal

pub returns-clause-run : goal.returns-clause-run
returns-clause-run g c h calls more outcomes others between after run runs faithful = IsRun-append g.K.Keeper h calls more outcomes others between after run runs faithful

pub returns-clause-once : goal.returns-clause-once
returns-clause-once g c before between after calls more outcomes others cleans first rest =
    does_append g.K.Keeper before between after calls more outcomes others cleans first rest
