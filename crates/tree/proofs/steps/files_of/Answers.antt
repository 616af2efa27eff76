use Rattle.tree.proofs.PoolFiles.{pool_listed}
use Rattle.tree.proofs.steps.files_of.Goals as goal

pub returns : goal.returns
returns c = pool_listed c.files-files.result.now c.args.shelves.now c.len.ensures.ordered c.files-files.ensures
