use Rattle.std.proofs.Common.{ap, ◌∙◌}
use Rattle.std.specs.Prelude.{is_some}
use Rattle.tree.proofs.PoolFiles.{among_pool}
use Rattle.tree.proofs.steps.is_among.Goals as goal

pub returns : goal.returns
returns c = c.is_some.ensures ∙ ap is_some c.file.ensures ∙ among_pool c.args.shelves.now c.args.path.now
