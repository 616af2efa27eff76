use Rattle.history.proofs.Runs.{leaves_append, leaves_one}
use Rattle.history.proofs.laws.a_crash_in_lists_is_in_one_list.Goals as goal

pub returns-clause-crash : goal.returns-clause-crash
returns-clause-crash g c before between after calls more outcomes others cleans does first rest =
    leaves_append g.K.Keeper before between after calls more outcomes others cleans does first rest

pub returns-clause-one : goal.returns-clause-one
returns-clause-one g c before after call outcome leaves = leaves_one g.K.Keeper before after call outcome leaves
