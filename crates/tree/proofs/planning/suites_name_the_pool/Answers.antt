use Rattle.tree.proofs.PoolFiles.{names_pool}
use Rattle.tree.proofs.planning.suites_name_the_pool.Goals as goal

pub returns : goal.returns
returns c = names_pool c.args.shelves.now c.agree.ensures
