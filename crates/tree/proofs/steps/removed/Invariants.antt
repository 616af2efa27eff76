use Rattle.std.proofs.Common.{◌≡◌, map, take}
use Rattle.tree.specs.Files.{pool_files}
use Rattle.tree.specs.Tree.{kept_back}
use Rattle.tree.specs.declared.steps.Step.TheVariants.{Remove}
use Rattle.tree.proofs.steps.removed.Given as goal

abbrev pub invariant-loop-path : goal.invariant-loop-path
invariant-loop-path l = l.steps.items ≡ map Remove (kept_back (pool_files l.shelves) (take l.path-index l.left))
